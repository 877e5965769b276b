use Rattle.std.proofs.Common.{subst}
use Rattle.function_places.specs.TokenPlaces.{TokensFound}
use Rattle.function_places.proofs.LimitSteps.{inner_at, outer_at}
use Rattle.function_places.proofs.hints.could_stand.Goals as goal

pub told_of_lists-requires-clause-outer : goal.told_of_lists-requires-clause-outer
told_of_lists-requires-clause-outer c = outer_at _ _ c.as_slice.ensures.value (subst (TokensFound c.args.bytes.now) c.in-Some.is c.in_ok-lists.ensures)

pub told_of_lists-requires-clause-inner : goal.told_of_lists-requires-clause-inner
told_of_lists-requires-clause-inner c = inner_at _ _ c.as_slice-in-Some.ensures.value (subst (TokensFound c.args.bytes.now) c.in-Some.is c.in_ok-lists.ensures)
