use Rattle.std.proofs.Common.{◌≡◌, ◌++◌, drop}
use Rattle.tree_events.specs.SlotsRead.{slots_in as slots_of_events}
use Rattle.tree_events.proofs.slots.slots_in.Given as goal

abbrev pub invariant-loop-event : goal.invariant-loop-event
invariant-loop-event l = l.list ++ slots_of_events (drop l.event-index l.events) ≡ slots_of_events l.events
