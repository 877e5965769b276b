use Rattle.std.proofs.Common.{◌≡◌, ◌≤◌, take, length}
use Rattle.turn_terms.specs.References.{value_in}
use Rattle.turn_terms.proofs.references.looked_up.Given as goal

abbrev pub invariant-loop-left : goal.invariant-loop-left
invariant-loop-left l = (l.left ≤ length l.refs) × (value_in l.refs l.name ≡ value_in (take l.left l.refs) l.name)

abbrev pub decreases-loop-left : goal.decreases-loop-left
decreases-loop-left l = l.left
