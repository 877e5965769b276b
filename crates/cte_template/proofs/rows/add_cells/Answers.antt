use Rattle.std.proofs.Common.{ap, ◌≡◌, ◌<◌, ◌+◌, ◌∙◌, take, length}
use Rattle.std.proofs.lemmas.List.{take_more}
use Rattle.cte_template.specs.Places.{place_of}
use Rattle.cte_template.specs.Written.{cell}
use Rattle.cte_template.proofs.CellRules.{one_more_cell, taken}
use Rattle.cte_template.proofs.rows.add_cells.Goals as goal

pub loop-i-preserved : goal.loop-i-preserved
loop-i-preserved c =
    let cs = c.args.columns.now in
    let i = c.loop-i.i in
    let lt : i < length cs = c.loop-i-test.true in
    c.in_ok-add.ensures
    ∙ one_more_cell c.args.list.now c.loop-i.list c.args.depth (place_of c.args.pairs.now) c.args.keys.now c.args.args.now i c.in_ok-small.field-0 (take i cs) (take (i + 1) cs) _ c.in_ok-cell.field-0
    c.loop-i.invariant (take_more cs i _ lt) (taken cs i lt) c.in_ok-small.ensures (c.in_ok-cell.ensures ∙ ap (cell c.args.depth (place_of c.args.pairs.now) _) c.beside-passed.ensures)
