use Rattle.std.proofs.Common.{◌≡◌, ◌≤◌, drop, length}
use Rattle.turn_terms.specs.References.{value_in, at_keys}
use Rattle.turn_terms.proofs.references.keys_at.Given as goal

abbrev pub invariant-loop-left : goal.invariant-loop-left
invariant-loop-left l = (l.left ≤ length l.keys) × (value_in l.list ≡ at_keys (drop l.left l.keys) (drop l.left l.values))

abbrev pub decreases-loop-left : goal.decreases-loop-left
decreases-loop-left l = l.left
