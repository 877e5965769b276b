use Rattle.std.proofs.Common.{IfSome, subst, ◌∙◌}
use Rattle.query_places.specs.QueryPlaces.{IsFirstToken}
use Rattle.away_top.specs.Steps.{run_end}
use Rattle.away_top.proofs.QueryExplaining.{rule_told}
use Rattle.away_top.proofs.explain_query.broken.Goals as goal

pub returns : goal.returns
returns c =
    let place = subst (λ o. IfSome o (IsFirstToken c.args.bytes.now)) c.in-Some.is c.in_ok-offset.ensures in
    rule_told c.args.name.now c.args.bytes.now c.args.rule c.in-Some.offset c.deref.result.now c.rule_reason.result.now (run_end c.told.result) place (c.deref.ensures.value ∙ c.in_ok-text.ensures)
    c.rule_reason.ensures c.told.ensures
