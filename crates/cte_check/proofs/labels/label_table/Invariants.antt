use Rattle.std.proofs.Common.{◌≡◌, ℕ, length, slice_get, Option, Some, None}
use Rattle.cte_check.proofs.LabelPlaces.{Marking}
use Rattle.cte_check.proofs.labels.label_table.Given as goal

abbrev pub invariant-loop-block : goal.invariant-loop-block
invariant-loop-block l = record {
  many : length l.table ≡ l._block;
  none : (b : ℕ) (label : Option ℕ) → slice_get l.table b ≡ Some label → label ≡ None;
}

abbrev pub invariant-loop-i : goal.invariant-loop-i
invariant-loop-i l = record { many : length l.table ≡ l.blocks; marking : Marking l.labels l.i l.table }
