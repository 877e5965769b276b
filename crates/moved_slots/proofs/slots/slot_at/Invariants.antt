use Rattle.std.proofs.Common.{◌≡◌, drop}
use Rattle.moved_slots.specs.Moved.{looked_up, slots_by}
use Rattle.moved_slots.proofs.slots.slot_at.Given as goal

abbrev pub invariant-loop-p : goal.invariant-loop-p
invariant-loop-p l = slots_by l.pairs l.slot ≡ looked_up (drop l.p-index l.pairs) l.slot l.found
