use Rattle.std.proofs.Common.{◌∙◌, arith, length, refl, rules, sym}
use Rattle.std.proofs.lemmas.Option.{slice_get_read}
use Rattle.call_answers.specs.Walking.{rules_of}
use Rattle.call_answers.proofs.BecomingRules.{arm_rule, block_by, cases_by, if_by, loop_by, other_none, other_some, some_of, under}
use Rattle.call_answers.proofs.CallBlockRules.{call_by}
use Rattle.call_answers.proofs.PartRules.{callee_rule}
use Rattle.call_answers.proofs.becoming.+becoming.Goals as goal

pub arm_becomes-returns-then-same_expr : goal.arm_becomes-returns-then-same_expr
arm_becomes-returns-then-same_expr t c = under _ _ c.row_becomes.result (λ q h. arm_rule (rules_of c.args.w.now) c.args.c.now c.args.p q c.args.a.now c.args.x.now c.as_slice.result.now c.as_slice-then-same_expr-2.result.now c.as_slice-then-same_expr.result.now
    c.as_slice.ensures c.as_slice-then-same_expr-2.ensures c.as_slice-then-same_expr.ensures (c.if-same_expr.ensures refl) h) c.row_becomes.ensures

pub block_becomes-returns : goal.block_becomes-returns
block_becomes-returns t c = under _ _ c.row_becomes.result (λ q h closing. block_by (rules_of c.args.w.now) c.args.c.now c.args.p c.in-Some.d.spot q c.in_ok-inside.inside c.in-Some.d.slots c.as_slice-pairs.result.now c.in-Block.own c.args.label.now
    c.as_slice.result.now c.in-Block.declared c.args.decls.now c.as_slice-2.result.now c.in-Block.list c.args.body.now c.in-Block.closing closing c.args.s.now
    c.in-Block.is c.as_slice.ensures c.as_slice-2.ensures c.as_slice-pairs.ensures (c.if-not-fresh.ensures refl) (some_of _ _ _ c.in-Some.is c.in_ok-d.ensures) c.in_ok-inside.ensures.slots c.in_ok-inside.ensures.labels h) c.row_becomes.ensures

pub loop_becomes-returns : goal.loop_becomes-returns
loop_becomes-returns t c = under _ _ c.row_becomes.result (λ q h closing. loop_by c.args.w.now c.args.c.now c.args.p c.in-Some.d.spot q c.in_ok-inside.inside c.in-Some.d.slots c.as_slice-pairs.result.now c.in-Loop.own c.args.label.now
    c.in-Loop.head c.args.kind.now c.as_slice.result.now c.in-Loop.list c.args.body.now c.in-Loop.closing closing c.args.s.now
    c.in-Loop.is c.as_slice.ensures c.as_slice-pairs.ensures (c.if-not-fresh.ensures refl) (c.if-not-same_kind.ensures refl) (some_of _ _ _ c.in-Some.is c.in_ok-d.ensures.slots) (some_of _ _ _ c.in-Some.is c.in_ok-d.ensures.at) (some_of _ _ _ c.in-Some.is c.in_ok-d.ensures.new)
    c.in_ok-inside.ensures.slots c.in_ok-inside.ensures.labels h) c.row_becomes.ensures

pub if_becomes-returns-then-is_none : goal.if_becomes-returns-then-is_none
if_becomes-returns-then-is_none t c = if_by (rules_of c.args.w.now) c.args.c.now c.args.p c.in-Some.m c.in-Some.m c.in-If.own c.as_slice-2.result.now c.in-If-x.arms c.as_slice.result.now
    c.in-If.rest c.in-If-x.other c.args.s.now c.args.x.now c.in-If.is c.in-If-x.is c.as_slice-2.ensures c.as_slice.ensures (some_of _ _ _ c.in-Some.is c.in_ok-m.ensures)
    (other_none (rules_of c.args.w.now) c.args.c.now c.in-Some.m c.in-If.rest c.in-If-x.other c.in-None.is (search rules))

pub if_becomes-returns-in-Some-other : goal.if_becomes-returns-in-Some-other
if_becomes-returns-in-Some-other t c = under _ _ c.row_becomes.result (λ q h. if_by (rules_of c.args.w.now) c.args.c.now c.args.p c.in-Some.m q c.in-If.own c.as_slice-2.result.now c.in-If-x.arms c.as_slice.result.now
    c.in-If.rest c.in-If-x.other c.args.s.now c.args.x.now c.in-If.is c.in-If-x.is c.as_slice-2.ensures c.as_slice.ensures (some_of _ _ _ c.in-Some.is c.in_ok-m.ensures)
    (other_some (rules_of c.args.w.now) c.args.c.now c.in-Some.m q c.in-If.rest c.in-If-x.other c.in-Some-rest.list c.as_slice-in-Some-other-2.result.now c.in-Some-other.body c.as_slice-in-Some-other.result.now
    c.in-Some-rest.is c.in-Some-other.is c.as_slice-in-Some-other-2.ensures c.as_slice-in-Some-other.ensures h)) c.row_becomes.ensures

pub cases_becomes-returns-then-is_none : goal.cases_becomes-returns-then-is_none
cases_becomes-returns-then-is_none t c = cases_by (rules_of c.args.w.now) c.args.c.now c.args.p c.in-Some.m c.in-Some.m c.in-Cases.own c.as_slice-2.result.now c.in-Cases-x.arms c.as_slice.result.now
    c.in-Cases.rest c.in-Cases-x.other c.args.s.now c.args.x.now c.in-Cases.is c.in-Cases-x.is c.as_slice-2.ensures c.as_slice.ensures (some_of _ _ _ c.in-Some.is c.in_ok-m.ensures)
    (other_none (rules_of c.args.w.now) c.args.c.now c.in-Some.m c.in-Cases.rest c.in-Cases-x.other c.in-None.is (search rules))

pub cases_becomes-returns-in-Some-other : goal.cases_becomes-returns-in-Some-other
cases_becomes-returns-in-Some-other t c = under _ _ c.row_becomes.result (λ q h. cases_by (rules_of c.args.w.now) c.args.c.now c.args.p c.in-Some.m q c.in-Cases.own c.as_slice-2.result.now c.in-Cases-x.arms c.as_slice.result.now
    c.in-Cases.rest c.in-Cases-x.other c.args.s.now c.args.x.now c.in-Cases.is c.in-Cases-x.is c.as_slice-2.ensures c.as_slice.ensures (some_of _ _ _ c.in-Some.is c.in_ok-m.ensures)
    (other_some (rules_of c.args.w.now) c.args.c.now c.in-Some.m q c.in-Cases.rest c.in-Cases-x.other c.in-Some-rest.list c.as_slice-in-Some-other-2.result.now c.in-Some-other.body c.as_slice-in-Some-other.result.now
    c.in-Some-rest.is c.in-Some-other.is c.as_slice-in-Some-other-2.ensures c.as_slice-in-Some-other.ensures h)) c.row_becomes.ensures

-- ---- the block of a call

pub call_becomes-returns-in-Some : goal.call_becomes-returns-in-Some
call_becomes-returns-in-Some t c = under _ _ c.callee_becomes.result (λ q h. call_by c.args.w.now c.args.c.now c.args.p c.args.g.now c.args.decls.now c.in-Block.params c.as_slice-in-Some-2.result.now c.args.xs.now c.in-Block.body c.as_slice-in-Some.result.now c.index-xs-0.result c.index-xs-1.result
    c.in-Some.l c.in-Block.label c.in-Block.closing c.as_slice.result.now q c.if-xs-ne2.false
    (slice_get_read c.args.xs.now 2 0 c.index-xs-0.result (sym c.if-xs-ne2.false) (omega arith) c.index-xs-0.is) (slice_get_read c.args.xs.now 2 1 c.index-xs-1.result (sym c.if-xs-ne2.false) (omega arith) c.index-xs-1.is)
    c.in-Block.is c.in-Some.is (sym c.is_some.ensures ∙ c.if-is_some.false) c.as_slice-in-Some-2.ensures c.as_slice-in-Some.ensures c.as_slice.ensures (c.if-not-ends_call.ensures refl) h) c.callee_becomes.ensures

pub callee_becomes-returns : goal.callee_becomes-returns
callee_becomes-returns t c = callee_rule c.args.w.now c.args.c.now c.in_ok-inside.inside c.args.p c.in-Some-2.q c.args.g.now c.args.label.now c.args.params.now c.args.xs.now c.index-xs-d.result c.in-Some.d
    (some_of _ _ _ c.in-Some.is c.entered.ensures) c.in_ok-inside.ensures
    (slice_get_read c.args.xs.now (length c.args.xs.now) c.in-Some.d.place c.index-xs-d.result refl (omega (arith, c.if-d-xs.false)) c.index-xs-d.is)
    (some_of _ _ _ c.in-Some-2.is c.in_ok-stmt_becomes.ensures)
