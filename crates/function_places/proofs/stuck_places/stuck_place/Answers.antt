use Rattle.std.proofs.Common.{subst}
use Rattle.function_places.specs.TokenPlaces.{TokensFound}
use Rattle.function_places.proofs.LimitSteps.{inner_at, lists_at, outer_at}
use Rattle.function_places.proofs.StuckSteps.{stuck_placed}
use Rattle.function_places.proofs.stuck_places.stuck_place.Goals as goal

pub stuck_in_lists-requires-clause-outer : goal.stuck_in_lists-requires-clause-outer
stuck_in_lists-requires-clause-outer c = outer_at _ _ c.as_slice.ensures.value (subst (TokensFound c.args.bytes.now) c.in-Some.is c.in_ok-lists.ensures)

pub stuck_in_lists-requires-clause-inner : goal.stuck_in_lists-requires-clause-inner
stuck_in_lists-requires-clause-inner c = inner_at _ _ c.as_slice-in-Some.ensures.value (subst (TokensFound c.args.bytes.now) c.in-Some.is c.in_ok-lists.ensures)

pub returns-in-Some : goal.returns-in-Some
returns-in-Some c =
    stuck_placed _ (lists_at _ _ _ _ c.as_slice.ensures.value c.as_slice-in-Some.ensures.value (subst (TokensFound c.args.bytes.now) c.in-Some.is c.in_ok-lists.ensures))
    c.stuck_in_lists.ensures
