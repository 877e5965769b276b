use Rattle.std.proofs.Common.{sym, ◌∙◌, arith}
use Rattle.cte_check.proofs.LabelPlaces.{marked_past, marked_now, none_there, one_there}
use Rattle.cte_check.proofs.labels.mark.Goals as goal

pub returns-then-block-len : goal.returns-then-block-len
returns-then-block-len c = sym (marked_past c.args.table.now c.args.block c.args.label (omega (arith, c.len.ensures, c.if-block-len.true)))

pub returns-then-is_none : goal.returns-then-is_none
returns-then-is_none c =
    c.set.ensures
    ∙ sym
    (marked_now c.args.table.now c.args.block c.args.label (omega (arith, c.len.ensures, c.if-block-len.false))
    (none_there c.args.table.now c.as_slice.result.now c.args.block c.is_none.result c.as_slice.ensures c.is_none.ensures c.if-is_none.true))

pub returns-else-is_none : goal.returns-else-is_none
returns-else-is_none c =
    sym
    (one_there c.args.table.now c.as_slice.result.now c.args.block c.args.label c.is_none.result c.as_slice.ensures c.is_none.ensures c.if-is_none.false
    (omega (arith, c.len.ensures, c.if-block-len.false)))
