use Rattle.std.proofs.Common.{ap, map, refl, inl, inr, ◌∙◌, ◌∷◌}
use Rattle.away_names.specs.NamingLists.{named_from}
use Rattle.away_names.specs.Places.{scope}
use Rattle.broken_names.proofs.Finding.{found_on, found_so, found_one, found_arm, stands}
use Rattle.broken_names.proofs.Ways as w
use Rattle.broken_names.proofs.+culprits.Goals as goal

pub expressions::in_arms-returns-in-Some : goal.expressions::in_arms-returns-in-Some
expressions::in_arms-returns-in-Some t c =
    record { one = c.arm-item.result; stands = stands c.args.arms.now c.loop-arm.arm-index c.arm-item.result c.arm-item.is c.loop-arm-test.true; holds = inl (found_so c.in_ok-found.ensures c.in-Some.is) }

pub expressions::in_arms-returns-in-Some-2 : goal.expressions::in_arms-returns-in-Some-2
expressions::in_arms-returns-in-Some-2 t c =
    record { one = c.arm-item.result; stands = stands c.args.arms.now c.loop-arm.arm-index c.arm-item.result c.arm-item.is c.loop-arm-test.true; holds = inr (found_so c.in_ok-found-2.ensures c.in-Some-2.is) }

pub expressions::in_expr-returns-then-breaks_call : goal.expressions::in_expr-returns-then-breaks_call
expressions::in_expr-returns-then-breaks_call t c = w.function_here c.in-Call.arguments c.in-Call.is c.if-breaks_call.ensures c.in_ok-copy-in-Call.ensures

pub expressions::in_expr-returns-then-breaks_parameter : goal.expressions::in_expr-returns-then-breaks_parameter
expressions::in_expr-returns-then-breaks_parameter t c = w.parameter_here c.in-Param.is c.if-breaks_parameter.ensures.rule c.if-breaks_parameter.ensures.place

pub expressions::in_expr-returns-in-Neg : goal.expressions::in_expr-returns-in-Neg
expressions::in_expr-returns-in-Neg t c = found_on (w.into_neg c.in-Neg.is c.get.ensures) _ c.in_expr.ensures

pub expressions::in_expr-returns-in-NegSmall : goal.expressions::in_expr-returns-in-NegSmall
expressions::in_expr-returns-in-NegSmall t c = found_on (w.into_neg_small c.in-NegSmall.is c.get-in-NegSmall.ensures) _ c.in_expr-in-NegSmall.ensures

pub expressions::in_expr-returns-in-Not : goal.expressions::in_expr-returns-in-Not
expressions::in_expr-returns-in-Not t c = found_on (w.into_not c.in-Not.is c.get-in-Not.ensures) _ c.in_expr-in-Not.ensures

pub expressions::in_expr-returns-in-Is : goal.expressions::in_expr-returns-in-Is
expressions::in_expr-returns-in-Is t c = found_on (w.into_is c.in-Is.is c.get-in-Is.ensures) _ c.in_expr-in-Is.ensures

pub expressions::in_expr-returns-in-Cast : goal.expressions::in_expr-returns-in-Cast
expressions::in_expr-returns-in-Cast t c = found_on (w.into_cast c.in-Cast.is c.get-in-Cast.ensures) _ c.in_expr-in-Cast.ensures

pub expressions::in_expr-returns-in-Some : goal.expressions::in_expr-returns-in-Some
expressions::in_expr-returns-in-Some t c = w.into_first c.in-Chain.links c.in-Chain.is c.get-in-Chain.ensures _ (found_so c.in_ok-found-in-Chain.ensures c.in-Some.is)

pub expressions::in_expr-returns-in-None : goal.expressions::in_expr-returns-in-None
expressions::in_expr-returns-in-None t c = found_on (w.into_links c.in-Chain.first c.in-Chain.is c.as_slice.ensures) _ c.in_links.ensures

pub expressions::in_expr-returns-in-Some-2 : goal.expressions::in_expr-returns-in-Some-2
expressions::in_expr-returns-in-Some-2 t c = w.into_left c.in-Compare.b c.in-Compare.is c.get-in-Compare.ensures _ (found_so c.in_ok-found-in-Compare.ensures c.in-Some-2.is)

pub expressions::in_expr-returns-in-None-2 : goal.expressions::in_expr-returns-in-None-2
expressions::in_expr-returns-in-None-2 t c = found_on (w.into_right c.in-Compare.a c.in-Compare.is c.get-in-None-2.ensures) _ c.in_expr-in-None-2.ensures

pub expressions::in_expr-returns-in-Some-3 : goal.expressions::in_expr-returns-in-Some-3
expressions::in_expr-returns-in-Some-3 t c = w.into_between c.in-Between.low c.in-Between.high c.in-Between.is c.get-in-Between.ensures _ (found_so c.in_ok-found-in-Between.ensures c.in-Some-3.is)

pub expressions::in_expr-returns-in-Some-4 : goal.expressions::in_expr-returns-in-Some-4
expressions::in_expr-returns-in-Some-4 t c = w.into_low c.in-Between.a c.in-Between.high c.in-Between.is c.get-in-None-3.ensures _ (found_so c.in_ok-found-in-None-3.ensures c.in-Some-4.is)

pub expressions::in_expr-returns-in-None-4 : goal.expressions::in_expr-returns-in-None-4
expressions::in_expr-returns-in-None-4 t c = found_on (w.into_high c.in-Between.a c.in-Between.low c.in-Between.is c.get-in-None-4.ensures) _ c.in_expr-in-None-4.ensures

pub expressions::in_expr-returns-in-Some-5 : goal.expressions::in_expr-returns-in-Some-5
expressions::in_expr-returns-in-Some-5 t c = w.into_chosen c.in-OneOf.choices c.in-OneOf.is c.get-in-OneOf.ensures _ (found_so c.in_ok-found-in-OneOf.ensures c.in-Some-5.is)

pub expressions::in_expr-returns-in-None-5 : goal.expressions::in_expr-returns-in-None-5
expressions::in_expr-returns-in-None-5 t c = found_on (w.into_choices c.in-OneOf.a c.in-OneOf.is c.as_slice-in-None-5.ensures) _ c.in_exprs.ensures

pub expressions::in_expr-returns-in-Some-6 : goal.expressions::in_expr-returns-in-Some-6
expressions::in_expr-returns-in-Some-6 t c = w.into_arms c.in-Cases.other c.in-Cases.is c.as_slice-in-Cases.ensures _ (found_arm c.in_ok-found-in-Cases.ensures c.in-Some-6.is)

pub expressions::in_expr-returns-in-None-6 : goal.expressions::in_expr-returns-in-None-6
expressions::in_expr-returns-in-None-6 t c = found_on (w.into_other c.in-Cases.arms c.in-Cases.is) _ c.in_other.ensures

pub expressions::in_expr-returns-else-breaks_call : goal.expressions::in_expr-returns-else-breaks_call
expressions::in_expr-returns-else-breaks_call t c = found_on (w.into_arguments c.in-Call.is c.as_slice-in-Call.ensures) _ c.in_exprs-in-Call.ensures

pub expressions::in_expr-returns-in-Scalar : goal.expressions::in_expr-returns-in-Scalar
expressions::in_expr-returns-in-Scalar t c = found_on (w.into_scalar c.in-Scalar.is c.get-in-Scalar.ensures) _ c.in_query.ensures

pub expressions::in_expr-returns-in-Exists : goal.expressions::in_expr-returns-in-Exists
expressions::in_expr-returns-in-Exists t c = found_on (w.into_exists c.in-Exists.is c.get-in-Exists.ensures) _ c.in_query-in-Exists.ensures

pub expressions::in_links-returns-in-Some : goal.expressions::in_links-returns-in-Some
expressions::in_links-returns-in-Some t c =
    record { one = c.link-item.result; stands = stands c.args.links.now c.loop-link.link-index c.link-item.result c.link-item.is c.loop-link-test.true; holds = found_so c.in_ok-found.ensures c.in-Some.is }

pub expressions::in_maybe-returns-in-Some : goal.expressions::in_maybe-returns-in-Some
expressions::in_maybe-returns-in-Some t c = found_on (w.into_some c.in-Some.is refl) _ c.in_expr.ensures

pub expressions::in_other-returns-in-Some : goal.expressions::in_other-returns-in-Some
expressions::in_other-returns-in-Some t c = found_on (w.into_some c.in-Some.is c.get.ensures) _ c.in_expr.ensures

pub queries::in_from-loop-f-init : goal.queries::in_from-loop-f-init
queries::in_from-loop-f-init t c = w.none_passed c.new-seen.ensures

pub queries::in_from-returns-in-Some : goal.queries::in_from-returns-in-Some
queries::in_from-returns-in-Some t c =
    w.found_item c.loop-f.f-index c.f-item.result c.f-item.is c.loop-f-test.true _ c.loop-f.invariant (found_so c.in_ok-found.ensures c.in-Some.is)

pub queries::in_from-loop-f-preserved : goal.queries::in_from-loop-f-preserved
queries::in_from-loop-f-preserved t c =
    w.next_item c.loop-f.f-index c.f-item.result c.f-item.is c.loop-f-test.true c.loop-f.invariant c.in_ok-item.ensures c.in_ok-push.ensures.ok

pub queries::in_items-returns-in-Some : goal.queries::in_items-returns-in-Some
queries::in_items-returns-in-Some t c =
    record { one = c.item-item.result; stands = stands c.args.list.now c.loop-item.item-index c.item-item.result c.item-item.is c.loop-item-test.true; holds = found_so c.in_ok-found.ensures c.in-Some.is }

pub queries::in_key-returns-in-None : goal.queries::in_key-returns-in-None
queries::in_key-returns-in-None t c = found_on w.into_key _ c.in_expr.ensures

pub queries::in_keys-returns-in-Some : goal.queries::in_keys-returns-in-Some
queries::in_keys-returns-in-Some t c =
    record { one = c.key-item.result; stands = stands c.args.keys.now c.loop-key.key-index c.key-item.result c.key-item.is c.loop-key-test.true; holds = found_so c.in_ok-found.ensures c.in-Some.is }

pub queries::in_parts-returns-in-Some : goal.queries::in_parts-returns-in-Some
queries::in_parts-returns-in-Some t c = inr (w.into_list c.as_slice.ensures _ (found_one c.in_ok-found.ensures c.in-Some.is))

pub queries::in_query-returns : goal.queries::in_query-returns
queries::in_query-returns t c = found_on (w.into_query c.as_slice.ensures) _ c.in_selects.ensures

pub queries::in_rest-returns-in-Some : goal.queries::in_rest-returns-in-Some
queries::in_rest-returns-in-Some t c = w.into_filter (found_so c.in_ok-found.ensures c.in-Some.is)

pub queries::in_rest-returns-in-Some-2 : goal.queries::in_rest-returns-in-Some-2
queries::in_rest-returns-in-Some-2 t c = w.into_order c.as_slice.ensures c.as_slice-in-None.ensures _ (found_one c.in_ok-found-in-None.ensures c.in-Some-2.is)

pub queries::in_rest-returns-in-None-2 : goal.queries::in_rest-returns-in-None-2
queries::in_rest-returns-in-None-2 t c = found_on w.into_limit _ c.in_maybe-in-None-2.ensures

pub queries::in_select-returns : goal.queries::in_select-returns
queries::in_select-returns t c =
    let s = scope c.args.s.now in
    let seen = c.in_ok-seen.ensures ∙ ap (λ fs. (named_from s fs).it.seen) c.as_slice.ensures in
    let levels = ap (map (λ l. l.now)) c.as_slice-2.ensures.value ∙ c.in_ok-levels.ensures ∙ ap (λ seen. seen ∷ s.levels) seen in
    found_on (w.into_select (ap (λ ls. record { table = s.table; levels = ls; variables = s.variables; in_function = s.in_function }) levels)) _ c.in_parts.ensures

pub queries::in_source-returns-in-Sub : goal.queries::in_source-returns-in-Sub
queries::in_source-returns-in-Sub t c = found_on (w.into_subquery c.in-Sub.is c.get.ensures) _ c.in_beside.ensures
