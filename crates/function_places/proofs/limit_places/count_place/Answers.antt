use Rattle.std.proofs.Common.{subst, IfSome}
use Rattle.function_places.specs.LimitPlaces.{IsAboveInBytes}
use Rattle.function_places.proofs.LimitSteps.{count_placed}
use Rattle.function_places.proofs.limit_places.count_place.Goals as goal

pub returns-in-Some : goal.returns-in-Some
returns-in-Some c =
    count_placed _ _ c.in-Some.found _ (subst (λ o. IfSome o (IsAboveInBytes c.args.which c.args.bytes.now)) c.in-Some.is c.in_ok-found.ensures)
    c.element_place.ensures
