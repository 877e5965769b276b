use Rattle.std.proofs.Common.{◌≡◌, drop}
use Rattle.cte_template.specs.Places.{place_or, place_of}
use Rattle.cte_template.proofs.places.place_of.Given as goal

abbrev pub invariant-loop-pair : goal.invariant-loop-pair
invariant-loop-pair l = place_or l.found (drop l.pair-index l.pairs) l.name ≡ place_of l.pairs l.name
