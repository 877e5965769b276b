use Rattle.std.proofs.Common.{◌≡◌, drop}
use Rattle.lateral_rows.specs.Aggregates.{has_int}
use Rattle.lateral_rows.proofs.sums.any_int.Given as goal

abbrev pub invariant-loop-v : goal.invariant-loop-v
invariant-loop-v l = has_int l.column ≡ has_int (drop l.v-index l.column)
