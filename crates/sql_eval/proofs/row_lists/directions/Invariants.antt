use Rattle.std.proofs.Common.{◌≡◌, ◌++◌, drop}
use Rattle.sql_meaning.specs.Selected.{falls}
use Rattle.sql_eval.proofs.row_lists.directions.Given as goal

abbrev pub invariant-loop-key : goal.invariant-loop-key
invariant-loop-key l = l.all ++ falls (drop l.key-index l.keys) ≡ falls l.keys
