use Rattle.std.proofs.Common.{◌≡◌, ◌<◌, ◌+◌, ◌∙◌, take, length, ap}
use Rattle.std.proofs.lemmas.List.{take_more}
use Rattle.cte_template.specs.Making.{making}
use Rattle.cte_template.specs.Written.{argument}
use Rattle.cte_template.proofs.CellRules.{one_more_argument, taken}
use Rattle.cte_template.proofs.rows.add_arguments.Goals as goal

pub loop-i-preserved : goal.loop-i-preserved
loop-i-preserved c =
    let cs = c.as_slice-columns.result.now in
    let i = c.loop-i.i in
    let lt : i < length cs = c.loop-i-test.true in
    c.in_ok-add.ensures
    ∙ one_more_argument (making c.args.w.now) c.args.list.now c.loop-i.list c.args.keys.now c.args.params.now i c.in_ok-small.field-0 (take i cs) (take (i + 1) cs) _ c.in_ok-argument.field-0
    c.loop-i.invariant (take_more cs i _ lt) (taken cs i lt) c.in_ok-small.ensures (c.in_ok-argument.ensures ∙ ap (argument (making c.args.w.now) _) c.beside-passed.ensures)
