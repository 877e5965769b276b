use Rattle.std.proofs.Common.{◌≡◌, ◌+◌, ◌<◌, ℕ, None, get_or, length, true}
use Rattle.expanded_sizes.specs.Sizes.{expanded_weight}
use Rattle.expanded_sizes.specs.Weighing.{IsCount}
use Rattle.expanded_sizes.proofs.weights.one_deeper.Given as goal

abbrev pub invariant-loop-i : goal.invariant-loop-i
invariant-loop-i l =
    (length l.all ≡ l.i) × ((j : ℕ) → j < length l.all → IsCount (expanded_weight l.g.weights l.g.fs.now (l.g.depth + 1) true j) (get_or l.all j None))
