use Rattle.std.proofs.Common.{◌≡◌, ◌<◌, ◌+◌, ◌∙◌, take, length}
use Rattle.std.proofs.lemmas.List.{take_more}
use Rattle.away_values.specs.declared.types.Ty.TheVariants as ty
use Rattle.cte_template.proofs.CellRules.{one_more_carried, taken}
use Rattle.cte_template.proofs.rows.add_carried.Goals as goal

pub loop-i-preserved : goal.loop-i-preserved
loop-i-preserved c =
    let ts = c.args.carried.now in
    let i = c.loop-i.i in
    let lt : i < length ts = c.loop-i-test.true in
    c.in_ok-add.ensures
    ∙ one_more_carried c.args.list.now c.loop-i.list c.args.depth c.in_ok-level.level i c.in_ok-sum.field-0 (take i ts) (take (i + 1) ts) _ c.in_ok-col.field-0
    c.loop-i.invariant (take_more ts i ty.Text lt) (taken ts i lt) c.in_ok-level.ensures c.in_ok-sum.ensures c.in_ok-col.ensures
