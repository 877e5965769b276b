use Rattle.std.proofs.Common.{refl}
use Rattle.function_places.proofs.StuckSteps.{stands, stands_last}
use Rattle.function_places.proofs.TooDeep.{some_tokens}
use Rattle.function_places.proofs.stuck_places.stuck_at.Goals as goal

pub returns-then-number-list : goal.returns-then-number-list
returns-then-number-list c = stands _ _ _ c.if-number-list.true

pub returns : goal.returns
returns c = stands_last _ _ _ (some_tokens _ c.if-is_empty.ensures) refl
