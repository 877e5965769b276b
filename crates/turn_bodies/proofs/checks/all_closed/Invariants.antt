use Rattle.std.proofs.Common.{◌≡◌, ℕ, ◌<◌, true, Some}
use Rattle.std.specs.Prelude.{slice_get}
use Rattle.call_forms.specs.Bodies.{body_of}
use Rattle.turn_bodies.specs.Testing.{closed}
use Rattle.turn_bodies.proofs.checks.all_closed.Given as goal

abbrev pub invariant-loop-block : goal.invariant-loop-block
invariant-loop-block l = (i b : ℕ) → i < l.block-index → slice_get l.labels i ≡ Some b → closed l.bound (body_of l.anf l.tail b) ≡ true
