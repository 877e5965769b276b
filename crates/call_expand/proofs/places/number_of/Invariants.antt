use Rattle.std.proofs.Common.{◌≡◌, ◌+◌, drop, option_map}
use Rattle.call_meaning.specs.Calls.{place_among}
use Rattle.call_expand.specs.Expanding.{names_of}
use Rattle.call_expand.proofs.places.number_of.Given as goal

abbrev pub invariant-loop-f : goal.invariant-loop-f
invariant-loop-f l = (l.i ≡ l.f-index) × (place_among (names_of l.fs) l.name ≡ option_map (λ j. l.i + j) (place_among (names_of (drop l.f-index l.fs)) l.name))
