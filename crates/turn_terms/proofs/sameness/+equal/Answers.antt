use Rattle.std.proofs.Common.{rules, ◌≡◌, ◌∙◌, length, true}
use Rattle.turn_terms.proofs.SameRules.{arm_differs, cases_no, cases_yes, cast_rule, chain_no, chain_yes, compare_no, compare_yes, is_rule, link_differs, not_rule}
use Rattle.turn_terms.proofs.sameness.+equal.Goals as goal

pub same-returns-in-Not : goal.same-returns-in-Not
same-returns-in-Not t c = c.is_refused.ensures ∙ not_rule c.args.a.now c.args.b.now c.in-Not.x c.get.result.now c.in-Not.is c.get.ensures

pub same-returns-in-Is : goal.same-returns-in-Is
same-returns-in-Is t c =
    c.is_tested.ensures ∙ is_rule c.args.a.now c.args.b.now c.in-Is.x c.get-in-Is.result.now c.in-Is.test c.in-Is.negative c.in-Is.is c.get-in-Is.ensures

pub same-returns-in-Cast : goal.same-returns-in-Cast
same-returns-in-Cast t c = c.is_cast.ensures ∙ cast_rule c.args.a.now c.args.b.now c.in-Cast.x c.get-in-Cast.result.now c.in-Cast.ty c.in-Cast.is
    c.get-in-Cast.ensures

pub same-returns-then-same : goal.same-returns-then-same
same-returns-then-same t c =
    chain_yes c.args.a.now c.args.b.now c.in-Chain.x c.in-Chain-b.y c.get-in-Chain-b.result.now c.get-in-Chain-b-2.result.now c.in-Chain.links
    c.in-Chain-b.others
    c.as_slice.result.now c.as_slice-then-same.result.now c.same.result c.in-Chain.is c.in-Chain-b.is c.get-in-Chain-b.ensures
    c.get-in-Chain-b-2.ensures c.same.ensures
    c.same_links.result c.if-same.true c.as_slice.ensures c.as_slice-then-same.ensures c.same_links.ensures

pub same-returns-else-same : goal.same-returns-else-same
same-returns-else-same t c =
    chain_no c.args.a.now c.args.b.now c.in-Chain.x c.in-Chain-b.y c.get-in-Chain-b.result.now c.get-in-Chain-b-2.result.now c.in-Chain.links
    c.in-Chain-b.others
    c.in-Chain.links c.in-Chain-b.others c.same.result c.in-Chain.is c.in-Chain-b.is c.get-in-Chain-b.ensures c.get-in-Chain-b-2.ensures
    c.same.ensures c.if-same.false

pub same-returns-then-same-2 : goal.same-returns-then-same-2
same-returns-then-same-2 t c =
    let alike : c.same_comparison.result ≡ true = search rules in
    compare_yes c.args.a.now c.args.b.now c.in-Compare.x c.in-Compare.y c.in-Compare-b.u c.in-Compare-b.v c.get-in-Compare-b.result.now
    c.get-in-Compare-b-2.result.now
    c.in-Compare.op c.in-Compare-b.other c.same_comparison.result c.same-in-Compare-b.result c.in-Compare.is c.in-Compare-b.is c.same_comparison.ensures alike
    c.get-in-Compare-b.ensures c.get-in-Compare-b-2.ensures c.same-in-Compare-b.ensures
    c.same-then-same-2.result c.get-then-same-2.result.now c.get-then-same-2-2.result.now c.if-same-2.true c.get-then-same-2.ensures
    c.get-then-same-2-2.ensures c.same-then-same-2.ensures

pub same-returns-else-same-2 : goal.same-returns-else-same-2
same-returns-else-same-2 t c =
    let alike : c.same_comparison.result ≡ true = search rules in
    compare_no c.args.a.now c.args.b.now c.in-Compare.x c.in-Compare.y c.in-Compare-b.u c.in-Compare-b.v c.get-in-Compare-b.result.now
    c.get-in-Compare-b-2.result.now
    c.in-Compare.op c.in-Compare-b.other c.same_comparison.result c.same-in-Compare-b.result c.in-Compare.is c.in-Compare-b.is c.same_comparison.ensures alike
    c.get-in-Compare-b.ensures c.get-in-Compare-b-2.ensures c.same-in-Compare-b.ensures c.if-same-2.false

pub same-returns-then-same_arms : goal.same-returns-then-same_arms
same-returns-then-same_arms t c =
    cases_yes c.args.a.now c.args.b.now c.in-Cases.arms c.in-Cases-b.others c.as_slice-in-Cases-b.result.now c.as_slice-in-Cases-b-2.result.now
    c.in-Cases.last c.in-Cases-b.end
    c.same_arms.result c.in-Cases.is c.in-Cases-b.is c.as_slice-in-Cases-b.ensures c.as_slice-in-Cases-b-2.ensures c.same_arms.ensures
    c.same_others.result c.if-same_arms.true c.same_others.ensures

pub same-returns-else-same_arms : goal.same-returns-else-same_arms
same-returns-else-same_arms t c =
    cases_no c.args.a.now c.args.b.now c.in-Cases.arms c.in-Cases-b.others c.as_slice-in-Cases-b.result.now c.as_slice-in-Cases-b-2.result.now
    c.in-Cases.last c.in-Cases-b.end
    c.same_arms.result c.in-Cases.is c.in-Cases-b.is c.as_slice-in-Cases-b.ensures c.as_slice-in-Cases-b-2.ensures c.same_arms.ensures c.if-same_arms.false

pub same_arms-returns-then-not-same : goal.same_arms-returns-then-not-same
same_arms-returns-then-not-same t c =
    let many : length c.args.a.now ≡ length c.args.b.now = search rules in
    arm_differs c.args.a.now c.args.b.now c.loop-i.i c.index-a-i.result c.index-b-i.result c.same.result _ c.loop-i-test.true many c.same.ensures
    c.loop-i.invariant c.if-not-same.true

pub same_links-returns-then-not-same_operator : goal.same_links-returns-then-not-same_operator
same_links-returns-then-not-same_operator t c =
    let many : length c.args.a.now ≡ length c.args.b.now = search rules in
    link_differs c.args.a.now c.args.b.now c.loop-i.i c.index-a-i.result c.index-b-i.result c.same_operator.result _ c.loop-i-test.true many
    c.same_operator.ensures c.loop-i.invariant
    c.if-not-same_operator.true
