use Rattle.std.proofs.Common.{◌≡◌, ◌<◌, ℕ, get_or, length}
use Rattle.expanded_sizes.proofs.depths.entering_none.Given as goal

abbrev pub invariant-loop : goal.invariant-loop
invariant-loop l = (length l.all ≡ l.counter) × ((i : ℕ) → i < length l.all → get_or l.all i 0 ≡ 0)
