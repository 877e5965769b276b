use Rattle.query_places.proofs.QuerySteps.{stands}
use Rattle.query_places.proofs.stops.stop_at.Goals as goal

pub returns-then-number-list : goal.returns-then-number-list
returns-then-number-list c = stands _ _ _ c.if-number-list.true
