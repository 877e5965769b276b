use Rattle.std.proofs.Common.{◌≡◌, ◌*◌, ◌^◌, pos, ◌≤ℤ◌, ◌+ℤ◌, drop}
use Rattle.std.specs.Prelude.{neg_ℤ}
use Rattle.lateral_rows.specs.Aggregates.{whole_sum}
use Rattle.lateral_rows.proofs.sums.total.Given as goal

abbrev pub invariant-loop-v : goal.invariant-loop-v
invariant-loop-v l = record {
  low : neg_ℤ (pos (2 ^ 63 * l.v-index)) ≤ℤ l.total;
  high : l.total ≤ℤ pos (2 ^ 63 * l.v-index);
  so_far : whole_sum l.column ≡ l.total +ℤ whole_sum (drop l.v-index l.column);
}
