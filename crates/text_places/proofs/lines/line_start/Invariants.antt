use Rattle.std.proofs.Common.{ℕ, ◌≡◌, ◌≤◌, ◌<◌, slice_index}
use Rattle.text_places.proofs.lines.line_start.Given as goal

abbrev pub invariant-loop-at : goal.invariant-loop-at
invariant-loop-at l =
    (l.at ≤ l.offset)
    × ((k : ℕ) → l.at ≤ k → k < l.offset → ¬ (slice_index l.text k ≡ 10))

abbrev pub decreases-loop-at : goal.decreases-loop-at
decreases-loop-at l = l.at
