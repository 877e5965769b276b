use Rattle.std.proofs.Common.{◌≡◌}
use Rattle.turn_query.specs.Filled.{kept}
use Rattle.turn_query.proofs.cells.kept_columns.Given as goal

abbrev pub invariant-loop-i : goal.invariant-loop-i
invariant-loop-i l = l.list ≡ kept l.i
