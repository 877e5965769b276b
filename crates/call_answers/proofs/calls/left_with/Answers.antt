use Rattle.std.proofs.Common.{sym, ◌∙◌}
use Rattle.call_answers.proofs.CallBlockRules.{if_some, left_by_exit}
use Rattle.call_answers.proofs.calls.left_with.Goals as goal

-- in the block without a label and without declarations
pub returns-else-not-is_empty : goal.returns-else-not-is_empty
returns-else-not-is_empty c = if_some _ _ c.set_and_left.result (λ y h. left_by_exit c.args.i c.args.label.now y.now c.args.x.now c.in-Block.own c.in-Block.decls c.in-Block.body c.as_slice.result.now c.in-Block.closing
    c.in-Block.is (sym c.is_some.ensures ∙ c.if-is_some.false) (c.is_empty.ensures.0 c.if-not-is_empty.false) c.as_slice.ensures h) c.set_and_left.ensures
