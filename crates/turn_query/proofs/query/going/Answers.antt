use Rattle.std.proofs.Common.{◌≡◌, IfOk, subst, ◌∙◌}
use Rattle.turn_query.proofs.QueryRules.{going_is}
use Rattle.turn_query.proofs.query.going.Goals as goal

pub returns : goal.returns
returns c =
    subst (λ v. IfOk c.level_as.result (λ i. i ≡ v))
    (going_is c.args.tables c.args.columns c.in_ok-sum.field-0 c.in_ok-list.list c.in_ok-from.from c.into_inner.result c.select-rows.result
    c.in_ok-new.field-0 c.in_ok-sum.ensures c.in_ok-list.ensures c.in_ok-from.ensures
    (c.into_inner.ensures ∙ (c.in_ok-goes_on.ensures ∙ c.in_ok-col.ensures)) c.select-rows.ensures c.in_ok-new.ensures) c.level_as.ensures
