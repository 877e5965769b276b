use Rattle.function_places.proofs.TooDeep.{at_first, at_last, some_tokens}
use Rattle.function_places.proofs.limit_places.too_deep.Goals as goal

pub loop-low-init : goal.loop-low-init
loop-low-init c = at_first _ _ _ (some_tokens _ c.if-is_empty.ensures) c.nesting.ensures c.if-nesting-limit.false

pub returns-clause-deep : goal.returns-clause-deep
returns-clause-deep c = at_last c.loop-low.invariant c.loop-low-test.false
