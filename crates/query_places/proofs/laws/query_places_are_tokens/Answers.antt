use Rattle.query_places.proofs.QuerySteps.{places_are_tokens}
use Rattle.query_places.proofs.laws.query_places_are_tokens.Goals as goal

pub returns : goal.returns
returns c = places_are_tokens
