use Rattle.std.proofs.Common.{◌≡◌, ◌<◌, ℕ, slice_get, Some}
use Rattle.anf_build.proofs.build.slots_of.Given as goal

abbrev pub invariant-loop-slot : goal.invariant-loop-slot
invariant-loop-slot l = (i s : ℕ) → i < l.slot-index → slice_get l.names i ≡ Some s → s < l.slots
