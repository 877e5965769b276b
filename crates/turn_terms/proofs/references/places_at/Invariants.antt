use Rattle.std.proofs.Common.{◌≡◌, map, take}
use Rattle.turn_terms.specs.References.{at_place}
use Rattle.turn_terms.proofs.references.places_at.Given as goal

abbrev pub invariant-loop-i : goal.invariant-loop-i
invariant-loop-i l = l.list ≡ map (at_place l.columns) (take l.i l.places)
