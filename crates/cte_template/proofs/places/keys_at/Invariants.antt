use Rattle.std.proofs.Common.{◌≡◌, ◌≤◌, drop, length}
use Rattle.cte_template.specs.Places.{place_of, at_keys}
use Rattle.cte_template.proofs.places.keys_at.Given as goal

abbrev pub invariant-loop-left : goal.invariant-loop-left
invariant-loop-left l = (l.left ≤ length l.keys) × (place_of l.pairs ≡ at_keys (drop l.left l.keys) (drop l.left l.places))

abbrev pub decreases-loop-left : goal.decreases-loop-left
decreases-loop-left l = l.left
