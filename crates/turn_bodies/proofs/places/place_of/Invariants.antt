use Rattle.std.proofs.Common.{◌≡◌, drop}
use Rattle.call_forms.specs.Forms.{place_from}
use Rattle.turn_bodies.proofs.places.place_of.Given as goal

abbrev pub invariant-loop-i : goal.invariant-loop-i
invariant-loop-i l = place_from 0 l.labels l.block ≡ place_from l.i (drop l.i l.labels) l.block
