use Rattle.query_places.proofs.QuerySteps.{starts_deep}
use Rattle.query_places.proofs.places.deep_in.Goals as goal

pub returns : goal.returns
returns c = starts_deep _ _ _ c.in_ok-number.ensures.within c.in_ok-number.ensures.deep
