use Rattle.std.proofs.Common.{◌≡◌, ◌+◌, ◌<◌, ℕ, true, get_or, length}
use Rattle.expanded_sizes.specs.Depths.{expanded_depth}
use Rattle.expanded_sizes.specs.Walking.{told}
use Rattle.expanded_sizes.proofs.depths.one_deeper.Given as goal

abbrev pub invariant-loop-i : goal.invariant-loop-i
invariant-loop-i l = (length l.all ≡ l.i) × ((i : ℕ) → i < length l.all → get_or l.all i 0 ≡ told (expanded_depth l.g.fs.now (l.g.calls + 1) true i))
