use Rattle.std.proofs.Common.{◌≡◌, ◌∙◌, ap, subst, ◌+◌, IfOk, arith}
use Rattle.call_expand.specs.Expanding.{function_at}
use Rattle.call_expand.specs.Moving.{seeing_params}
use Rattle.call_expand.proofs.ExpandingRules.{body_is, call_assigns, call_returns, called_is, some_is}
use Rattle.call_expand.proofs.walk.+moving.Goals as goal

pub assigned-returns-in_ok-body-in-Some : goal.assigned-returns-in_ok-body-in-Some
assigned-returns-in_ok-body-in-Some t c =
    let x = c.in-Expand.x in
    subst (λ y. IfOk c.call_assigned.result (λ b. b ≡ y))
    (call_assigns c.args.w x c.in-Expand.is c.args.e.now c.args.seen.now c.args.k c.call_place.result c.call_place.ensures c.args.name.now c.in-Some.c c.in_ok-body-in-Some.body c.in-Some.is c.in_ok-body-in-Some.ensures)
    c.call_assigned.ensures

pub returned-returns-in_ok-body-in-Some : goal.returned-returns-in_ok-body-in-Some
returned-returns-in_ok-body-in-Some t c =
    let x = c.in-Expand.x in
    subst (λ y. IfOk c.call_returned.result (λ b. b ≡ y))
    (call_returns c.args.w x c.in-Expand.is c.args.e.now c.args.seen.now c.args.k c.call_place.result c.call_place.ensures c.in-Some.c c.in_ok-body-in-Some.body c.in-Some.is c.in_ok-body-in-Some.ensures)
    c.call_returned.ensures

pub called_body-returns : goal.called_body-returns
called_body-returns t c =
    let x = c.args.x in
    let g = c.in-Some.g.now in
    let is : g ≡ function_at x.fs.now c.args.part = some_is _ c.function_at.result c.in-Some.g c.in-Some.is c.function_at.ensures in
    subst (λ y. IfOk c.expanded_body.result (λ b. b ≡ y))
    (called_is c.args.names.now x c.args.part c.args.k c.in_ok-l.l c.in_ok-p.p c.in_ok-at.at g is c.in_ok-l.ensures c.in_ok-p.ensures (c.in_ok-at.ensures ∙ ap (λ n. c.in_ok-p.p + n) c.len.ensures))
    c.expanded_body.ensures

pub expanded_body-returns : goal.expanded_body-returns
expanded_body-returns t c =
    let x = c.args.x in
    let g = c.in-Some.g.now in
    let is : g ≡ function_at x.fs.now c.args.part = some_is _ c.function_at.result c.in-Some.g c.in-Some.is c.function_at.ensures in
    let sees = c.in_ok-seen.ensures ∙ ap (λ ps. seeing_params c.args.p ps) c.as_slice.ensures in
    subst (λ y. IfOk c.moved_stmt.result (λ b. b ≡ y))
    (body_is c.args.names x c.args.part c.args.p c.args.k g c.in_ok-seen.seen is sees (omega (arith, c.if-x-eq0.false)))
    c.moved_stmt.ensures
