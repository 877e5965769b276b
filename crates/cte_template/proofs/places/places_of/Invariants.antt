use Rattle.std.proofs.Common.{◌≡◌, map, take}
use Rattle.cte_template.specs.Places.{place_of}
use Rattle.cte_template.proofs.places.places_of.Given as goal

abbrev pub invariant-loop-name : goal.invariant-loop-name
invariant-loop-name l = l.list ≡ map (place_of l.pairs) (take l.name-index l.names)
