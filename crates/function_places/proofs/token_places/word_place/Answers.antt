use Rattle.std.proofs.Common.{subst}
use Rattle.function_places.specs.TokenPlaces.{TokensFound}
use Rattle.function_places.proofs.LimitSteps.{inner_at, outer_at}
use Rattle.function_places.proofs.token_places.word_place.Goals as goal

pub start_of_word-requires-clause-outer : goal.start_of_word-requires-clause-outer
start_of_word-requires-clause-outer c = outer_at _ _ c.as_slice.ensures.value (subst (TokensFound c.args.bytes.now) c.in-Some.is c.in_ok-lists.ensures)

pub start_of_word-requires-clause-inner : goal.start_of_word-requires-clause-inner
start_of_word-requires-clause-inner c = inner_at _ _ c.as_slice-in-Some.ensures.value (subst (TokensFound c.args.bytes.now) c.in-Some.is c.in_ok-lists.ensures)
