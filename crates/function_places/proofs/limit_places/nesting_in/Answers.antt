use Rattle.function_places.proofs.TooDeep.{starts_deep}
use Rattle.function_places.proofs.limit_places.nesting_in.Goals as goal

pub returns : goal.returns
returns c = starts_deep _ _ _ c.in_ok-number.ensures.within c.in_ok-number.ensures.deep
