use Rattle.std.proofs.Common.{ℕ, ◌≡◌, ◌≤◌, ◌<◌, ◌-◌, length, slice_index}
use Rattle.text_places.proofs.lines.line_end.Given as goal

abbrev pub invariant-loop-at : goal.invariant-loop-at
invariant-loop-at l =
    (l.offset ≤ l.at) × (l.at ≤ length l.text)
    × ((k : ℕ) → l.offset ≤ k → k < l.at → ¬ (slice_index l.text k ≡ 10))

abbrev pub decreases-loop-at : goal.decreases-loop-at
decreases-loop-at l = length l.text - l.at
