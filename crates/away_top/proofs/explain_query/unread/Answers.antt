use Rattle.std.proofs.Common.{IfSome, subst, sym}
use Rattle.away_top.specs.QueryExplanations.{QueryRefusedAt}
use Rattle.away_top.specs.Refusals.{IsRule}
use Rattle.away_top.specs.Steps.{run_end}
use Rattle.away_top.proofs.QueryExplaining.{query_read_told}
use Rattle.away_top.proofs.explain_query.unread.Goals as goal

pub returns : goal.returns
returns c =
    let error = c.args.error.now in
    let place = subst (λ o. IfSome o (QueryRefusedAt c.args.bytes.now error)) c.in-Some.is c.in_ok-found.ensures in
    let rule_is = subst (IsRule error) (sym c.deref.ensures.value) c.in_ok-rule.ensures in
    query_read_told c.args.name.now c.args.bytes.now error c.in-Some.found c.deref.result.now c.query_reason.result.now (run_end c.told.result) place rule_is c.query_reason.ensures c.told.ensures
