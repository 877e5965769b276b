use Rattle.std.proofs.Common.{◌≡◌, ◌++◌, drop}
use Rattle.std.specs.List.{zip}
use Rattle.lateral_rows.proofs.ordering.pairs.Given as goal

abbrev pub invariant-loop-i : goal.invariant-loop-i
invariant-loop-i l = l.all.items ++ zip (drop l.i l.keys) (drop l.i l.rows) ≡ zip l.keys l.rows
