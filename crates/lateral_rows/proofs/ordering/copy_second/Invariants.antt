use Rattle.std.proofs.Common.{◌≡◌, ◌++◌, drop}
use Rattle.sql_meaning.specs.Selected.{second_of}
use Rattle.lateral_rows.proofs.ordering.copy_second.Given as goal

abbrev pub invariant-loop-pair : goal.invariant-loop-pair
invariant-loop-pair l = l.rows ++ second_of (drop l.pair-index l.all) ≡ second_of l.all
