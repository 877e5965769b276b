use Rattle.std.proofs.Common.{ap, ◌∙◌}
use Rattle.turn_terms.specs.References.{scope_of}
use Rattle.turn_query.specs.Filled.{cell_of, row_cells}
use Rattle.turn_query.proofs.CellRules.{cells_step}
use Rattle.turn_query.proofs.cells.row_cells.Goals as goal

pub loop-i-preserved : goal.loop-i-preserved
loop-i-preserved c =
    let w = c.args.w.now in
    let refs = scope_of c.args.refs.now in
    let places = c.args.places.now in
    let args = c.args.args.now in
    let columns = c.args.w.now.columns.now in
    cells_step w refs places args columns c.loop-i.i c.in_ok-small.field-0 _ (row_cells w 0 refs places args columns) c.loop-i.list c.push.new.self c.in_ok-cell.field-0
    c.loop-i-test.true c.loop-i.invariant c.in_ok-small.ensures (c.in_ok-cell.ensures ∙ ap (cell_of refs _) c.passed-passed.ensures) c.in_ok-push.ensures.ok
