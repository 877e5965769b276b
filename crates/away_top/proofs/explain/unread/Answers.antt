use Rattle.std.proofs.Common.{IfSome, subst, sym}
use Rattle.away_top.specs.Explanations.{IsReason, RefusedAt}
use Rattle.away_top.specs.Refusals.{IsRule}
use Rattle.away_top.specs.Steps.{run_end}
use Rattle.away_top.proofs.Explaining.{read_told}
use Rattle.away_top.proofs.explain.unread.Goals as goal

pub returns : goal.returns
returns c =
    let error = c.args.error.now in
    let place = subst (λ o. IfSome o (RefusedAt c.args.bytes.now error)) c.in-Some.is c.in_ok-found.ensures in
    let rule_is = subst (IsRule error) (sym c.deref.ensures.value) c.in_ok-rule.ensures in
    let reasoned = subst (IsReason error c.in-Some.found.ended) (sym c.deref-2.ensures) c.in_ok-reason.ensures in
    read_told c.args.func.now c.args.bytes.now error c.in-Some.found c.deref.result.now c.deref-2.result.now (run_end c.told.result) place rule_is reasoned c.told.ensures
