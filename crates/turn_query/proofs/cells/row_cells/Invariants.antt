use Rattle.std.proofs.Common.{◌≡◌, ◌++◌, drop}
use Rattle.turn_terms.specs.References.{scope_of}
use Rattle.turn_query.specs.Filled.{row_cells}
use Rattle.turn_query.proofs.cells.row_cells.Given as goal

abbrev pub invariant-loop-i : goal.invariant-loop-i
invariant-loop-i l =
    l.list ++ row_cells l.w l.i (scope_of l.refs) l.places l.args (drop l.i l.w.columns.now) ≡ row_cells l.w 0 (scope_of l.refs) l.places l.args l.w.columns.now
