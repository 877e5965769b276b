use Rattle.std.proofs.Common.{rules, ◌≡◌, sym, ap, ◌∙◌, subst, suc, ◌<◌, length, get_or, Some, arith}
use Rattle.away_values.specs.declared.operators.ChainOp.{ChainOp}
use Rattle.away_trees.specs.declared.queries.Expr.{Expr}
use Rattle.away_trees.specs.declared.queries.Expr.TheViews.{out-Select}
use Rattle.moved_slots.specs.Moved.{ArmMoved, Each, ExprMoved, FromMoved, ItemMoved, KeyMoved, LinkMoved, Maybe, QueryMoved, SelectMoved, slots_by}
use Rattle.moved_slots.proofs.Lists.{each_kept, from_at, same_at, seen_at}
use Rattle.moved_slots.proofs.MovedRules.{between_rule, call_rule, cases_rule, cast_rule, chain_rule, compare_rule, exists_rule, is_rule, neg_rule, negsmall_rule, not_rule, oneof_rule, scalar_rule, select_rule, sub_rule}
use Rattle.moved_slots.proofs.+moved.Goals as goal

pub exprs::arms_moved-loop-i-preserved : goal.exprs::arms_moved-loop-i-preserved
exprs::arms_moved-loop-i-preserved t c =
    let many : length c.args.list.now ≡ length c.args.others.now = search rules in
    let there : c.loop-i.i < length c.args.others.now = omega (arith, c.loop-i-test.true, many) in
    let test : ExprMoved (slots_by c.args.pairs.now) c.args.d c.index-list-i.result.0 c.index-others-i.result.0 =
    from_at (λ (x y : Expr × Expr). ExprMoved (slots_by c.args.pairs.now) c.args.d x.0 y.0) _ _ _ _ (sym c.index-list-i.is) (sym c.index-others-i.is) (c.expr_moved.ensures (search rules)) in
    let value : ExprMoved (slots_by c.args.pairs.now) c.args.d c.index-list-i.result.1 c.index-others-i.result.1 =
    from_at (λ (x y : Expr × Expr). ExprMoved (slots_by c.args.pairs.now) c.args.d x.1 y.1) _ _ _ _ (seen_at c.args.list.now c.loop-i.i _ c.index-list-i-in-loop-i.result c.loop-i-test.true c.index-list-i.is)
    (seen_at c.args.others.now c.loop-i.i _ c.index-others-i-in-loop-i.result there c.index-others-i.is) (c.expr_moved-in-loop-i.ensures (search rules)) in
    each_kept (ArmMoved (slots_by c.args.pairs.now) c.args.d) c.args.list.now c.args.others.now c.loop-i.i c.index-list-i.result c.index-others-i.result c.loop-i-test.true many c.index-list-i.is c.index-others-i.is (test, value) c.loop-i.invariant

pub exprs::exprs_moved-loop-i-preserved : goal.exprs::exprs_moved-loop-i-preserved
exprs::exprs_moved-loop-i-preserved t c =
    each_kept (ExprMoved (slots_by c.args.pairs.now) c.args.d) c.args.list.now c.args.others.now c.loop-i.i c.index-list-i.result c.index-others-i.result c.loop-i-test.true (search rules) c.index-list-i.is c.index-others-i.is
    (c.expr_moved.ensures (search rules)) c.loop-i.invariant

pub exprs::links_moved-loop-i-preserved : goal.exprs::links_moved-loop-i-preserved
exprs::links_moved-loop-i-preserved t c =
    let many : length c.args.list.now ≡ length c.args.others.now = search rules in
    let there : c.loop-i.i < length c.args.others.now = omega (arith, c.loop-i-test.true, many) in
    let seen : (get_or c.args.others.now c.loop-i.i c.index-others-i.result).0 ≡ (get_or c.args.list.now c.loop-i.i c.index-list-i.result).0 = search rules in
    let op : c.index-others-i.result.0 ≡ c.index-list-i.result.0 = ap (λ (x : ChainOp × Expr). x.0) c.index-others-i.is ∙ (seen ∙ sym (ap (λ (x : ChainOp × Expr). x.0) c.index-list-i.is)) in
    let part : ExprMoved (slots_by c.args.pairs.now) c.args.d c.index-list-i.result.1 c.index-others-i.result.1 =
    from_at (λ (x y : ChainOp × Expr). ExprMoved (slots_by c.args.pairs.now) c.args.d x.1 y.1) _ _ _ _ (seen_at c.args.list.now c.loop-i.i _ c.index-list-i-in-loop-i.result c.loop-i-test.true c.index-list-i.is)
    (seen_at c.args.others.now c.loop-i.i _ c.index-others-i-in-loop-i.result there c.index-others-i.is) (c.expr_moved.ensures (search rules)) in
    each_kept (LinkMoved (slots_by c.args.pairs.now) c.args.d) c.args.list.now c.args.others.now c.loop-i.i c.index-list-i.result c.index-others-i.result c.loop-i-test.true many c.index-list-i.is c.index-others-i.is (record { op = op; part = part }) c.loop-i.invariant

pub exprs::one_part_moved-returns-in-Neg-x : goal.exprs::one_part_moved-returns-in-Neg-x
exprs::one_part_moved-returns-in-Neg-x t c = λ h.
    same_at (ExprMoved (slots_by c.args.pairs.now) c.args.d) c.args.e.now c.args.x.now _ _ c.in-Neg.is c.in-Neg-x.is
    (neg_rule (slots_by c.args.pairs.now) c.args.d c.in-Neg.a c.in-Neg-x.b (from_at (ExprMoved (slots_by c.args.pairs.now) c.args.d) _ _ _ _ c.get.ensures c.get-in-Neg-x.ensures (c.expr_moved.ensures h)))

pub exprs::one_part_moved-returns-in-NegSmall-x : goal.exprs::one_part_moved-returns-in-NegSmall-x
exprs::one_part_moved-returns-in-NegSmall-x t c = λ h.
    same_at (ExprMoved (slots_by c.args.pairs.now) c.args.d) c.args.e.now c.args.x.now _ _ c.in-NegSmall.is c.in-NegSmall-x.is
    (negsmall_rule (slots_by c.args.pairs.now) c.args.d c.in-NegSmall.a c.in-NegSmall-x.b (from_at (ExprMoved (slots_by c.args.pairs.now) c.args.d) _ _ _ _ c.get-in-NegSmall-x.ensures c.get-in-NegSmall-x-2.ensures (c.expr_moved-in-NegSmall-x.ensures h)))

pub exprs::one_part_moved-returns-in-Not-x : goal.exprs::one_part_moved-returns-in-Not-x
exprs::one_part_moved-returns-in-Not-x t c = λ h.
    same_at (ExprMoved (slots_by c.args.pairs.now) c.args.d) c.args.e.now c.args.x.now _ _ c.in-Not.is c.in-Not-x.is
    (not_rule (slots_by c.args.pairs.now) c.args.d c.in-Not.a c.in-Not-x.b (from_at (ExprMoved (slots_by c.args.pairs.now) c.args.d) _ _ _ _ c.get-in-Not-x.ensures c.get-in-Not-x-2.ensures (c.expr_moved-in-Not-x.ensures h)))

pub exprs::one_part_moved-returns-else-t-v : goal.exprs::one_part_moved-returns-else-t-v
exprs::one_part_moved-returns-else-t-v t c = λ h.
    let first : c.in-Is.s ≡ c.in-Is-x.u = search rules in
    let second : c.in-Is.t ≡ c.in-Is-x.v = search rules in
    same_at (ExprMoved (slots_by c.args.pairs.now) c.args.d) c.args.e.now c.args.x.now _ _ c.in-Is.is c.in-Is-x.is
    (is_rule (slots_by c.args.pairs.now) c.args.d c.in-Is.a c.in-Is-x.b c.in-Is.s c.in-Is-x.u c.in-Is.t c.in-Is-x.v first second (from_at (ExprMoved (slots_by c.args.pairs.now) c.args.d) c.in-Is.a c.in-Is-x.b _ _ c.get-in-Is-x.ensures c.get-in-Is-x-2.ensures (c.expr_moved-in-Is-x.ensures h)))

pub exprs::one_part_moved-returns-else-ne-2 : goal.exprs::one_part_moved-returns-else-ne-2
exprs::one_part_moved-returns-else-ne-2 t c = λ h.
    let one : c.in-Cast.s ≡ c.in-Cast-x.t = search rules in
    same_at (ExprMoved (slots_by c.args.pairs.now) c.args.d) c.args.e.now c.args.x.now _ _ c.in-Cast.is c.in-Cast-x.is
    (cast_rule (slots_by c.args.pairs.now) c.args.d c.in-Cast.a c.in-Cast-x.b c.in-Cast.s c.in-Cast-x.t one (from_at (ExprMoved (slots_by c.args.pairs.now) c.args.d) c.in-Cast.a c.in-Cast-x.b _ _ c.get-in-Cast-x.ensures c.get-in-Cast-x-2.ensures (c.expr_moved-in-Cast-x.ensures h)))

pub exprs::one_part_moved-returns-in-Scalar-x : goal.exprs::one_part_moved-returns-in-Scalar-x
exprs::one_part_moved-returns-in-Scalar-x t c = λ h.
    same_at (ExprMoved (slots_by c.args.pairs.now) c.args.d) c.args.e.now c.args.x.now _ _ c.in-Scalar.is c.in-Scalar-x.is
    (scalar_rule (slots_by c.args.pairs.now) c.args.d c.in-Scalar.q c.in-Scalar-x.r (from_at (QueryMoved (slots_by c.args.pairs.now) c.args.d) _ _ _ _ c.get-in-Scalar-x.ensures c.get-in-Scalar-x-2.ensures (c.query_moved.ensures h)))

pub exprs::one_part_moved-returns-in-Exists-x : goal.exprs::one_part_moved-returns-in-Exists-x
exprs::one_part_moved-returns-in-Exists-x t c = λ h.
    same_at (ExprMoved (slots_by c.args.pairs.now) c.args.d) c.args.e.now c.args.x.now _ _ c.in-Exists.is c.in-Exists-x.is
    (exists_rule (slots_by c.args.pairs.now) c.args.d c.in-Exists.q c.in-Exists-x.r (from_at (QueryMoved (slots_by c.args.pairs.now) c.args.d) _ _ _ _ c.get-in-Exists-x.ensures c.get-in-Exists-x-2.ensures (c.query_moved-in-Exists-x.ensures h)))

pub exprs::other_moved-returns-in-Some-x : goal.exprs::other_moved-returns-in-Some-x
exprs::other_moved-returns-in-Some-x t c = λ h.
    same_at (Maybe (ExprMoved (slots_by c.args.pairs.now) c.args.d)) c.args.e.now c.args.x.now (Some c.in-Some.a) (Some c.in-Some-x.b) c.in-Some.is c.in-Some-x.is (from_at (ExprMoved (slots_by c.args.pairs.now) c.args.d) c.in-Some.a c.in-Some-x.b _ _ c.get.ensures c.get-in-Some-x.ensures (c.expr_moved.ensures h))

pub exprs::parts_moved-returns-else-not-expr_moved : goal.exprs::parts_moved-returns-else-not-expr_moved
exprs::parts_moved-returns-else-not-expr_moved t c = λ h.
    same_at (ExprMoved (slots_by c.args.pairs.now) c.args.d) c.args.e.now c.args.x.now _ _ c.in-Chain.is c.in-Chain-x.is
    (chain_rule (slots_by c.args.pairs.now) c.args.d c.in-Chain.a c.in-Chain-x.b c.in-Chain.links c.in-Chain-x.others (from_at (ExprMoved (slots_by c.args.pairs.now) c.args.d) c.in-Chain.a c.in-Chain-x.b _ _ c.get.ensures c.get-in-Chain-x.ensures (c.expr_moved.ensures (search rules)))
    (from_at (Each (LinkMoved (slots_by c.args.pairs.now) c.args.d)) c.in-Chain.links c.in-Chain-x.others _ _ c.as_slice.ensures c.as_slice-in-Chain-x.ensures (c.links_moved.ensures h)))

pub exprs::parts_moved-returns-else-not-expr_moved-2 : goal.exprs::parts_moved-returns-else-not-expr_moved-2
exprs::parts_moved-returns-else-not-expr_moved-2 t c = λ h.
    let one : c.in-Compare.s ≡ c.in-Compare-x.t = search rules in
    same_at (ExprMoved (slots_by c.args.pairs.now) c.args.d) c.args.e.now c.args.x.now _ _ c.in-Compare.is c.in-Compare-x.is
    (compare_rule (slots_by c.args.pairs.now) c.args.d c.in-Compare.s c.in-Compare-x.t c.in-Compare.a c.in-Compare.b c.in-Compare-x.y c.in-Compare-x.z one (from_at (ExprMoved (slots_by c.args.pairs.now) c.args.d) c.in-Compare.a c.in-Compare-x.y _ _ c.get-in-Compare-x.ensures c.get-in-Compare-x-2.ensures (c.expr_moved-in-Compare-x.ensures (search rules)))
    (from_at (ExprMoved (slots_by c.args.pairs.now) c.args.d) c.in-Compare.b c.in-Compare-x.z _ _ c.get-in-Compare-x-3.ensures c.get-in-Compare-x-4.ensures (c.expr_moved-in-Compare-x-2.ensures h)))

pub exprs::parts_moved-returns-else-not-expr_moved-4 : goal.exprs::parts_moved-returns-else-not-expr_moved-4
exprs::parts_moved-returns-else-not-expr_moved-4 t c = λ h.
    let one : c.in-Between.s ≡ c.in-Between-x.t = search rules in
    same_at (ExprMoved (slots_by c.args.pairs.now) c.args.d) c.args.e.now c.args.x.now _ _ c.in-Between.is c.in-Between-x.is
    (between_rule (slots_by c.args.pairs.now) c.args.d c.in-Between.s c.in-Between-x.t c.in-Between.a c.in-Between.b c.in-Between.c c.in-Between-x.w c.in-Between-x.y c.in-Between-x.z one (from_at (ExprMoved (slots_by c.args.pairs.now) c.args.d) c.in-Between.a c.in-Between-x.w _ _ c.get-in-Between-x.ensures c.get-in-Between-x-2.ensures (c.expr_moved-in-Between-x.ensures (search rules)))
    (from_at (ExprMoved (slots_by c.args.pairs.now) c.args.d) c.in-Between.b c.in-Between-x.y _ _ c.get-in-Between-x-3.ensures c.get-in-Between-x-4.ensures (c.expr_moved-in-Between-x-2.ensures (search rules)))
    (from_at (ExprMoved (slots_by c.args.pairs.now) c.args.d) c.in-Between.c c.in-Between-x.z _ _ c.get-in-Between-x-5.ensures c.get-in-Between-x-6.ensures (c.expr_moved-in-Between-x-3.ensures h)))

pub exprs::parts_moved-returns-else-not-expr_moved-5 : goal.exprs::parts_moved-returns-else-not-expr_moved-5
exprs::parts_moved-returns-else-not-expr_moved-5 t c = λ h.
    let one : c.in-OneOf.s ≡ c.in-OneOf-x.t = search rules in
    same_at (ExprMoved (slots_by c.args.pairs.now) c.args.d) c.args.e.now c.args.x.now _ _ c.in-OneOf.is c.in-OneOf-x.is
    (oneof_rule (slots_by c.args.pairs.now) c.args.d c.in-OneOf.s c.in-OneOf-x.t c.in-OneOf.a c.in-OneOf-x.b c.in-OneOf.list c.in-OneOf-x.others one (from_at (ExprMoved (slots_by c.args.pairs.now) c.args.d) c.in-OneOf.a c.in-OneOf-x.b _ _ c.get-in-OneOf-x.ensures c.get-in-OneOf-x-2.ensures (c.expr_moved-in-OneOf-x.ensures (search rules)))
    (from_at (Each (ExprMoved (slots_by c.args.pairs.now) c.args.d)) c.in-OneOf.list c.in-OneOf-x.others _ _ c.as_slice-in-OneOf-x.ensures c.as_slice-in-OneOf-x-2.ensures (c.exprs_moved.ensures h)))

pub exprs::parts_moved-returns-else-not-arms_moved : goal.exprs::parts_moved-returns-else-not-arms_moved
exprs::parts_moved-returns-else-not-arms_moved t c = λ h.
    same_at (ExprMoved (slots_by c.args.pairs.now) c.args.d) c.args.e.now c.args.x.now _ _ c.in-Cases.is c.in-Cases-x.is
    (cases_rule (slots_by c.args.pairs.now) c.args.d c.in-Cases.arms c.in-Cases-x.others c.in-Cases.a c.in-Cases-x.b (from_at (Each (ArmMoved (slots_by c.args.pairs.now) c.args.d)) c.in-Cases.arms c.in-Cases-x.others _ _ c.as_slice-in-Cases-x.ensures c.as_slice-in-Cases-x-2.ensures (c.arms_moved.ensures (search rules))) (c.other_moved.ensures h))

pub exprs::parts_moved-returns-else-ne-2 : goal.exprs::parts_moved-returns-else-ne-2
exprs::parts_moved-returns-else-ne-2 t c = λ h.
    let one : c.in-Call.f ≡ c.in-Call-x.g = search rules in
    same_at (ExprMoved (slots_by c.args.pairs.now) c.args.d) c.args.e.now c.args.x.now _ _ c.in-Call.is c.in-Call-x.is
    (call_rule (slots_by c.args.pairs.now) c.args.d c.in-Call.f c.in-Call-x.g c.in-Call.list c.in-Call-x.others one (from_at (Each (ExprMoved (slots_by c.args.pairs.now) c.args.d)) c.in-Call.list c.in-Call-x.others _ _ c.as_slice-in-Call-x.ensures c.as_slice-in-Call-x-2.ensures (c.exprs_moved-in-Call-x.ensures h)))

pub queries::from_moved-returns-else-lateral-other : goal.queries::from_moved-returns-else-lateral-other
queries::from_moved-returns-else-lateral-other t c = λ h.
    let one : c.in-Sub.lateral ≡ c.in-Sub-source-2.other = search rules in
    sub_rule (slots_by c.args.pairs.now) c.args.d c.args.f.now c.args.y.now c.in-Sub.q c.in-Sub-source-2.r c.in-Sub.lateral c.in-Sub-source-2.other c.in-Sub.is c.in-Sub-source-2.is one (from_at (QueryMoved (slots_by c.args.pairs.now) c.args.d) c.in-Sub.q c.in-Sub-source-2.r _ _ c.get.ensures c.get-in-Sub-source-2.ensures (c.query_moved.ensures h))

pub queries::froms_moved-loop-i-preserved : goal.queries::froms_moved-loop-i-preserved
queries::froms_moved-loop-i-preserved t c =
    each_kept (FromMoved (slots_by c.args.pairs.now) c.args.d) c.args.list.now c.args.others.now c.loop-i.i c.index-list-i.result c.index-others-i.result c.loop-i-test.true (search rules) c.index-list-i.is c.index-others-i.is
    (c.from_moved.ensures (search rules)) c.loop-i.invariant

pub queries::items_moved-loop-i-preserved : goal.queries::items_moved-loop-i-preserved
queries::items_moved-loop-i-preserved t c =
    each_kept (ItemMoved (slots_by c.args.pairs.now) c.args.d) c.args.list.now c.args.others.now c.loop-i.i c.index-list-i.result c.index-others-i.result c.loop-i-test.true (search rules) c.index-list-i.is c.index-others-i.is
    (c.item_moved.ensures (search rules)) c.loop-i.invariant

pub queries::keys_moved-loop-i-preserved : goal.queries::keys_moved-loop-i-preserved
queries::keys_moved-loop-i-preserved t c =
    each_kept (KeyMoved (slots_by c.args.pairs.now) c.args.d) c.args.list.now c.args.others.now c.loop-i.i c.index-list-i.result c.index-others-i.result c.loop-i-test.true (search rules) c.index-list-i.is c.index-others-i.is
    (c.key_moved.ensures (search rules)) c.loop-i.invariant

pub queries::select_moved-returns : goal.queries::select_moved-returns
queries::select_moved-returns t c = λ h.
    let deep : c.in-Some.deeper ≡ suc c.args.d = search rules in
    select_rule (slots_by c.args.pairs.now) c.args.d c.args.s.now c.args.y.now
    (subst (λ k. Each (ItemMoved (slots_by c.args.pairs.now) k) (out-Select c.args.s.now).list (out-Select c.args.y.now).list) deep (from_at (Each (ItemMoved (slots_by c.args.pairs.now) c.in-Some.deeper)) _ _ _ _ c.as_slice.ensures c.as_slice-2.ensures (c.items_moved.ensures (search rules))))
    (subst (λ k. Each (FromMoved (slots_by c.args.pairs.now) k) (out-Select c.args.s.now).from (out-Select c.args.y.now).from) deep (from_at (Each (FromMoved (slots_by c.args.pairs.now) c.in-Some.deeper)) _ _ _ _ c.as_slice-3.ensures c.as_slice-4.ensures (c.froms_moved.ensures (search rules))))
    (subst (λ k. Maybe (ExprMoved (slots_by c.args.pairs.now) k) (out-Select c.args.s.now).filter (out-Select c.args.y.now).filter) deep (c.maybe_moved.ensures (search rules)))
    (subst (λ k. Each (KeyMoved (slots_by c.args.pairs.now) k) (out-Select c.args.s.now).order (out-Select c.args.y.now).order) deep (from_at (Each (KeyMoved (slots_by c.args.pairs.now) c.in-Some.deeper)) _ _ _ _ c.as_slice-5.ensures c.as_slice-6.ensures (c.keys_moved.ensures (search rules))))
    (subst (λ k. Maybe (ExprMoved (slots_by c.args.pairs.now) k) (out-Select c.args.s.now).limit (out-Select c.args.y.now).limit) deep (c.maybe_moved-2.ensures h))

pub queries::selects_moved-loop-i-preserved : goal.queries::selects_moved-loop-i-preserved
queries::selects_moved-loop-i-preserved t c =
    each_kept (SelectMoved (slots_by c.args.pairs.now) c.args.d) c.args.list.now c.args.others.now c.loop-i.i c.index-list-i.result c.index-others-i.result c.loop-i-test.true (search rules) c.index-list-i.is c.index-others-i.is
    (c.select_moved.ensures (search rules)) c.loop-i.invariant
