use Rattle.tree_events.proofs.PlacedEvents.{placed_has}
use Rattle.tree_events.proofs.laws.placed_expressions_have_events.Goals as goal

pub returns : goal.returns
returns c ref e = placed_has ref e
