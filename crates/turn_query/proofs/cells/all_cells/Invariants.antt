use Rattle.std.proofs.Common.{◌≡◌, map}
use Rattle.sql_meaning.specs.Template.{below}
use Rattle.sql_meaning.specs.Trees.{col}
use Rattle.turn_query.proofs.cells.all_cells.Given as goal

abbrev pub invariant-loop-i : goal.invariant-loop-i
invariant-loop-i l = l.list ≡ map (col 0 0) (below l.i)
