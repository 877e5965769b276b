use Rattle.std.proofs.Common.{option_map, subst}
use Rattle.query_places.specs.QueryPlaces.{ListFound}
use Rattle.query_places.proofs.QuerySteps.{list_at, spelled_at, tells_none, tells_so}
use Rattle.query_places.proofs.places.begins_query.Goals as goal

pub starts_query-requires : goal.starts_query-requires
starts_query-requires c = spelled_at _ _ c.as_slice.ensures.value (subst (λ o. ListFound c.args.bytes.now (option_map (λ v. v.items) o)) c.in-Some.is c.in_ok-list.ensures)

pub returns-in-Some : goal.returns-in-Some
returns-in-Some c =
    tells_so c.as_slice.result.now c.starts_query.result (list_at _ _ c.as_slice.ensures.value (subst (λ o. ListFound c.args.bytes.now (option_map (λ v. v.items) o)) c.in-Some.is c.in_ok-list.ensures)) c.starts_query.ensures

pub returns-in-None : goal.returns-in-None
returns-in-None c = tells_none (subst (λ o. ListFound c.args.bytes.now (option_map (λ v. v.items) o)) c.in-None.is c.in_ok-list.ensures)
