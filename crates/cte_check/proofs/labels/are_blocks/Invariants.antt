use Rattle.std.proofs.Common.{◌≡◌, ℕ, suc, ◌<◌, ◌≤◌, slice_get, Some}
use Rattle.cte_check.proofs.labels.are_blocks.Given as goal

abbrev pub invariant-loop-label : goal.invariant-loop-label
invariant-loop-label l = (i x : ℕ) → i < l.label-index → slice_get l.labels i ≡ Some x → suc x ≤ l.blocks
