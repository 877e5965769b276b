use Rattle.std.proofs.Common.{◌≡◌}
use Rattle.call_meaning.specs.Alike.{no_slots, put_from}
use Rattle.moved_slots.specs.Moved.{slots_by}
use Rattle.call_answers.proofs.callees.callee_in_sight.Given as goal

abbrev pub invariant-loop-i : goal.invariant-loop-i
invariant-loop-i l = slots_by l.slots ≡ put_from l.i 0 l.from no_slots
