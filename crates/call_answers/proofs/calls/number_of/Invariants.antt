use Rattle.std.proofs.Common.{◌≡◌, ◌+◌, drop, option_map}
use Rattle.call_meaning.specs.Calls.{place_among}
use Rattle.call_answers.specs.Calling.{names}
use Rattle.call_answers.proofs.calls.number_of.Given as goal

abbrev pub invariant-loop-p : goal.invariant-loop-p
invariant-loop-p l = (l.i ≡ l.p-index) × (place_among (names l.parts) l.name ≡ option_map (λ j. l.i + j) (place_among (names (drop l.p-index l.parts)) l.name))
