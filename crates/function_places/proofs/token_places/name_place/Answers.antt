use Rattle.std.proofs.Common.{subst}
use Rattle.function_places.specs.TokenPlaces.{TokensFound}
use Rattle.function_places.proofs.LimitSteps.{outer_at}
use Rattle.function_places.proofs.token_places.name_place.Goals as goal

pub start_of_name-requires : goal.start_of_name-requires
start_of_name-requires c = outer_at _ _ c.as_slice.ensures.value (subst (TokensFound c.args.bytes.now) c.in-Some.is c.in_ok-lists.ensures)
