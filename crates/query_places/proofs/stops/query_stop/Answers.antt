use Rattle.std.proofs.Common.{option_map, subst}
use Rattle.query_places.specs.QueryPlaces.{ListFound}
use Rattle.query_places.proofs.QuerySteps.{spelled_at}
use Rattle.query_places.proofs.stops.query_stop.Goals as goal

pub stop_in-requires : goal.stop_in-requires
stop_in-requires c = spelled_at _ _ c.as_slice.ensures.value (subst (λ o. ListFound c.args.bytes.now (option_map (λ v. v.items) o)) c.in-Some.is c.in_ok-list.ensures)
