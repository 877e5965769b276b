use Rattle.function_places.proofs.PlaceTokens as places
use Rattle.function_places.proofs.laws.places_are_tokens.Goals as goal

pub returns : goal.returns
returns c = places.places_are_tokens
