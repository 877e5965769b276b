use Rattle.tree_events.proofs.ReadSlots.{slots_are}
use Rattle.tree_events.proofs.laws.events_determine_slots.Goals as goal

pub returns : goal.returns
returns c e = slots_are e
