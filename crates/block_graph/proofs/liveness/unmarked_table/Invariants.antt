use Rattle.std.proofs.Common.{◌≡◌, ℕ, length, true}
use Rattle.block_graph.specs.Liveness.{marked}
use Rattle.block_graph.proofs.liveness.unmarked_table.Given as goal

abbrev pub invariant-loop-block : goal.invariant-loop-block
invariant-loop-block l = (length l.table.items ≡ l._block) × ((b : ℕ) → marked l.table.items b ≡ true → ⊥)
