use Rattle.std.proofs.Common.{rules, ap, sym, ◌∙◌}
use Rattle.away_trees.specs.Algebra.{expr_of, item_of, from_of, key_of, select_of}
use Rattle.away_trees.specs.declared.queries.Expr.TheViews.{out-Select}
use Rattle.away_trees.proofs.Equations as eq
use Rattle.tree_events.specs.declared.events.Kind.TheVariants as kind
use Rattle.tree_events.specs.Events.{leaf, shaping, link_put, arm_put}
use Rattle.tree_events.proofs.Putting.{then_on, as_put, begins, row_on, row_end}
use Rattle.tree_events.proofs.PutNodes as n
use Rattle.tree_events.proofs.push.+shape.Goals as goal

pub push_expr-returns-in-Neg : goal.push_expr-returns-in-Neg
push_expr-returns-in-Neg t c = as_put (n.one_is c.args.manner kind.Neg c.args.e.now c.in-Neg.x c.get.result.now (ap (λ e. expr_of (shaping c.args.manner) e) c.in-Neg.is ∙ eq.of_neg (shaping c.args.manner) c.in-Neg.x) c.get.ensures) c.push_node.ensures

pub push_expr-returns-in-NegSmall : goal.push_expr-returns-in-NegSmall
push_expr-returns-in-NegSmall t c = as_put (n.one_is c.args.manner kind.NegSmall c.args.e.now c.in-NegSmall.x c.get-in-NegSmall.result.now (ap (λ e. expr_of (shaping c.args.manner) e) c.in-NegSmall.is ∙ eq.of_negsmall (shaping c.args.manner) c.in-NegSmall.x) c.get-in-NegSmall.ensures) c.push_node-in-NegSmall.ensures

pub push_expr-returns-in-Not : goal.push_expr-returns-in-Not
push_expr-returns-in-Not t c = as_put (n.one_is c.args.manner kind.Not c.args.e.now c.in-Not.x c.get-in-Not.result.now (ap (λ e. expr_of (shaping c.args.manner) e) c.in-Not.is ∙ eq.of_not (shaping c.args.manner) c.in-Not.x) c.get-in-Not.ensures) c.push_node-in-Not.ensures

pub push_expr-returns-in-Is : goal.push_expr-returns-in-Is
push_expr-returns-in-Is t c = as_put (n.one_is c.args.manner (kind.Is c.in-Is.test c.in-Is.negative) c.args.e.now c.in-Is.x c.get-in-Is.result.now (ap (λ e. expr_of (shaping c.args.manner) e) c.in-Is.is ∙ eq.of_is (shaping c.args.manner) c.in-Is.x c.in-Is.test c.in-Is.negative) c.get-in-Is.ensures) c.push_node-in-Is.ensures

pub push_expr-returns-in-Cast : goal.push_expr-returns-in-Cast
push_expr-returns-in-Cast t c = as_put (n.one_is c.args.manner (kind.Cast c.in-Cast.ty) c.args.e.now c.in-Cast.x c.get-in-Cast.result.now (ap (λ e. expr_of (shaping c.args.manner) e) c.in-Cast.is ∙ eq.of_cast (shaping c.args.manner) c.in-Cast.x c.in-Cast.ty) c.get-in-Cast.ensures) c.push_node-in-Cast.ensures

pub push_expr-returns-in_ok-push_links-in-Chain : goal.push_expr-returns-in_ok-push_links-in-Chain
push_expr-returns-in_ok-push_links-in-Chain t c = as_put (n.chain_is c.args.manner c.args.e.now c.in-Chain.x c.get-in-Chain.result.now c.in-Chain.links c.as_slice.result.now c.in-Chain.is c.get-in-Chain.ensures c.as_slice.ensures)
    (then_on c.in_ok-open-in-Chain.ensures (then_on c.in_ok-push_expr-in-Chain.ensures (then_on c.in_ok-push_links-in-Chain.ensures c.close.ensures)))

pub push_expr-returns-in_ok-push_expr-in-Compare-2 : goal.push_expr-returns-in_ok-push_expr-in-Compare-2
push_expr-returns-in_ok-push_expr-in-Compare-2 t c = as_put (n.two_is c.args.manner (kind.Compare c.in-Compare.op) c.args.e.now c.in-Compare.x c.in-Compare.y c.get-in-Compare.result.now c.get-in-Compare-2.result.now (ap (λ e. expr_of (shaping c.args.manner) e) c.in-Compare.is ∙ eq.of_compare (shaping c.args.manner) c.in-Compare.op c.in-Compare.x c.in-Compare.y) c.get-in-Compare.ensures c.get-in-Compare-2.ensures)
    (then_on c.in_ok-open-in-Compare.ensures (then_on c.in_ok-push_expr-in-Compare.ensures (then_on c.in_ok-push_expr-in-Compare-2.ensures c.close-in-Compare.ensures)))

pub push_expr-returns-in_ok-push_expr-in-Between-3 : goal.push_expr-returns-in_ok-push_expr-in-Between-3
push_expr-returns-in_ok-push_expr-in-Between-3 t c = as_put (n.three_is c.args.manner (kind.Between c.in-Between.negative) c.args.e.now c.in-Between.x c.in-Between.low c.in-Between.high c.get-in-Between.result.now c.get-in-Between-2.result.now c.get-in-Between-3.result.now (ap (λ e. expr_of (shaping c.args.manner) e) c.in-Between.is ∙ eq.of_between (shaping c.args.manner) c.in-Between.negative c.in-Between.x c.in-Between.low c.in-Between.high) c.get-in-Between.ensures c.get-in-Between-2.ensures c.get-in-Between-3.ensures)
    (then_on c.in_ok-open-in-Between.ensures (then_on c.in_ok-push_expr-in-Between.ensures (then_on c.in_ok-push_expr-in-Between-2.ensures (then_on c.in_ok-push_expr-in-Between-3.ensures c.close-in-Between.ensures))))

pub push_expr-returns-in_ok-push_exprs-in-OneOf : goal.push_expr-returns-in_ok-push_exprs-in-OneOf
push_expr-returns-in_ok-push_exprs-in-OneOf t c = as_put (n.one_of_is c.args.manner c.in-OneOf.negative c.args.e.now c.in-OneOf.x c.get-in-OneOf.result.now c.in-OneOf.list c.as_slice-in-OneOf.result.now c.in-OneOf.is c.get-in-OneOf.ensures c.as_slice-in-OneOf.ensures)
    (then_on c.in_ok-open-in-OneOf.ensures (then_on c.in_ok-push_expr-in-OneOf.ensures (then_on c.in_ok-push_exprs-in-OneOf.ensures c.close-in-OneOf.ensures)))

pub push_expr-returns-in_ok-push_else-in-Cases : goal.push_expr-returns-in_ok-push_else-in-Cases
push_expr-returns-in_ok-push_else-in-Cases t c = as_put (n.cases_is c.args.manner c.args.e.now c.in-Cases.arms c.as_slice-in-Cases.result.now c.in-Cases.other c.in-Cases.is c.as_slice-in-Cases.ensures)
    (then_on c.in_ok-open-in-Cases.ensures (then_on c.in_ok-push_arms-in-Cases.ensures (then_on c.in_ok-push_else-in-Cases.ensures c.close-in-Cases.ensures)))

pub push_expr-returns-in_ok-push_exprs-in-Call : goal.push_expr-returns-in_ok-push_exprs-in-Call
push_expr-returns-in_ok-push_exprs-in-Call t c = as_put (n.call_is c.args.manner c.args.e.now c.in-Call.of c.in-Call.list c.as_slice-in-Call.result.now c.in-Call.is c.as_slice-in-Call.ensures)
    (then_on c.in_ok-open-in-Call.ensures (then_on c.in_ok-name-in-Call.ensures (then_on c.in_ok-push_exprs-in-Call.ensures c.close-in-Call.ensures)))

pub push_expr-returns-in_ok-push_query-in-Scalar : goal.push_expr-returns-in_ok-push_query-in-Scalar
push_expr-returns-in_ok-push_query-in-Scalar t c = as_put (n.scalar_is c.args.manner c.args.e.now c.in-Scalar.q c.get-in-Scalar.result.now c.in-Scalar.is c.get-in-Scalar.ensures)
    (then_on c.in_ok-open-in-Scalar.ensures (then_on c.in_ok-push_query-in-Scalar.ensures c.close-in-Scalar.ensures))

pub push_expr-returns-in_ok-push_query-in-Exists : goal.push_expr-returns-in_ok-push_query-in-Exists
push_expr-returns-in_ok-push_query-in-Exists t c = as_put (n.exists_is c.args.manner c.args.e.now c.in-Exists.q c.get-in-Exists.result.now c.in-Exists.is c.get-in-Exists.ensures)
    (then_on c.in_ok-open-in-Exists.ensures (then_on c.in_ok-push_query-in-Exists.ensures c.close-in-Exists.ensures))

pub push_from_item-returns-in_ok-push_query-in-Sub : goal.push_from_item-returns-in_ok-push_query-in-Sub
push_from_item-returns-in_ok-push_query-in-Sub t c = as_put (n.sub_is c.args.manner c.args.item.now.source c.args.item.now.columns c.in-Sub.q c.get.result.now c.in-Sub.lateral c.in-Sub.is c.get.ensures)
    (then_on c.in_ok-open-in-Sub.ensures (then_on c.in_ok-push_query-in-Sub.ensures c.close.ensures))

pub push_arms-loop-arm-init : goal.push_arms-loop-arm-init
push_arms-loop-arm-init t c = begins

pub push_arms-loop-arm-preserved : goal.push_arms-loop-arm-preserved
push_arms-loop-arm-preserved t c = row_on (arm_put c.args.manner) c.args.arms.now c.loop-arm.arm-index c.arm-item.result c.arm-item.is c.loop-arm-test.true c.loop-arm.invariant (then_on c.in_ok-open.ensures (then_on c.in_ok-push_expr.ensures (then_on c.in_ok-push_expr-2.ensures c.in_ok-close.ensures)))

pub push_arms-returns : goal.push_arms-returns
push_arms-returns t c = row_end (arm_put c.args.manner) c.args.arms.now c.loop-arm.arm-index c.loop-arm-test.false c.loop-arm.invariant

pub push_exprs-loop-e-init : goal.push_exprs-loop-e-init
push_exprs-loop-e-init t c = begins

pub push_exprs-loop-e-preserved : goal.push_exprs-loop-e-preserved
push_exprs-loop-e-preserved t c = row_on (λ x. expr_of (shaping c.args.manner) x) c.args.list.now c.loop-e.e-index c.e-item.result c.e-item.is c.loop-e-test.true c.loop-e.invariant c.in_ok-push_expr.ensures

pub push_exprs-returns : goal.push_exprs-returns
push_exprs-returns t c = row_end (λ x. expr_of (shaping c.args.manner) x) c.args.list.now c.loop-e.e-index c.loop-e-test.false c.loop-e.invariant

pub push_from-loop-item-init : goal.push_from-loop-item-init
push_from-loop-item-init t c = begins

pub push_from-loop-item-preserved : goal.push_from-loop-item-preserved
push_from-loop-item-preserved t c = row_on (λ x. from_of (shaping c.args.manner) x) c.args.list.now c.loop-item.item-index c.item-item.result c.item-item.is c.loop-item-test.true c.loop-item.invariant c.in_ok-push_from_item.ensures

pub push_from-returns : goal.push_from-returns
push_from-returns t c = then_on c.in_ok-open.ensures (then_on (row_end (λ x. from_of (shaping c.args.manner) x) c.args.list.now c.loop-item.item-index c.loop-item-test.false c.loop-item.invariant) c.close.ensures)

pub push_links-loop-link-init : goal.push_links-loop-link-init
push_links-loop-link-init t c = begins

pub push_links-loop-link-preserved : goal.push_links-loop-link-preserved
push_links-loop-link-preserved t c = row_on (link_put c.args.manner) c.args.links.now c.loop-link.link-index c.link-item.result c.link-item.is c.loop-link-test.true c.loop-link.invariant c.in_ok-push_node.ensures

pub push_links-returns : goal.push_links-returns
push_links-returns t c = row_end (link_put c.args.manner) c.args.links.now c.loop-link.link-index c.loop-link-test.false c.loop-link.invariant

pub push_list-loop-item-init : goal.push_list-loop-item-init
push_list-loop-item-init t c = begins

pub push_list-loop-item-preserved : goal.push_list-loop-item-preserved
push_list-loop-item-preserved t c = row_on (λ x. item_of (shaping c.args.manner) x) c.args.list.now c.loop-item.item-index c.item-item.result c.item-item.is c.loop-item-test.true c.loop-item.invariant c.in_ok-push_expr.ensures

pub push_list-returns : goal.push_list-returns
push_list-returns t c = then_on c.in_ok-open.ensures (then_on (row_end (λ x. item_of (shaping c.args.manner) x) c.args.list.now c.loop-item.item-index c.loop-item-test.false c.loop-item.invariant) c.close.ensures)

pub push_order-loop-key-init : goal.push_order-loop-key-init
push_order-loop-key-init t c = begins

pub push_order-loop-key-preserved : goal.push_order-loop-key-preserved
push_order-loop-key-preserved t c = row_on (λ x. key_of (shaping c.args.manner) x) c.args.keys.now c.loop-key.key-index c.key-item.result c.key-item.is c.loop-key-test.true c.loop-key.invariant c.in_ok-push_node.ensures

pub push_order-returns : goal.push_order-returns
push_order-returns t c = then_on c.in_ok-open.ensures (then_on (row_end (λ x. key_of (shaping c.args.manner) x) c.args.keys.now c.loop-key.key-index c.loop-key-test.false c.loop-key.invariant) c.close.ensures)

pub push_selects-loop-select-init : goal.push_selects-loop-select-init
push_selects-loop-select-init t c = begins

pub push_selects-loop-select-preserved : goal.push_selects-loop-select-preserved
push_selects-loop-select-preserved t c = row_on (λ x. select_of (shaping c.args.manner) x) c.args.selects.now c.loop-select.select-index c.select-item.result c.select-item.is c.loop-select-test.true c.loop-select.invariant c.in_ok-push_select.ensures

pub push_selects-returns : goal.push_selects-returns
push_selects-returns t c = row_end (λ x. select_of (shaping c.args.manner) x) c.args.selects.now c.loop-select.select-index c.loop-select-test.false c.loop-select.invariant

pub push_query-returns : goal.push_query-returns
push_query-returns t c = as_put (n.query_is c.args.manner c.args.query.now c.as_slice.result.now c.as_slice.ensures)
    (then_on c.in_ok-open.ensures (then_on c.in_ok-open-2.ensures (then_on c.in_ok-push_with.ensures (then_on c.in_ok-close.ensures (then_on c.in_ok-push_selects.ensures c.close-2.ensures)))))

pub push_recursive-returns : goal.push_recursive-returns
push_recursive-returns t c = as_put (n.recursive_is c.args.manner c.args.recursive.now c.as_slice.result.now c.as_slice.ensures)
    (then_on c.in_ok-open.ensures (then_on c.in_ok-open-2.ensures (then_on c.in_ok-push_selects.ensures (then_on c.in_ok-close.ensures (then_on c.in_ok-push_select.ensures c.close-2.ensures)))))

pub push_expr-returns-in-Int : goal.push_expr-returns-in-Int
push_expr-returns-in-Int t c =
    as_put (λ rest. ap (λ k. leaf k rest) c.integer.ensures ∙ (ap (λ k. leaf (kind.Int k) rest) (search rules) ∙ ap (λ e. expr_of (shaping c.args.manner) e rest) (sym c.in-Int.is))) c.leaf.ensures

pub push_select-returns : goal.push_select-returns
push_select-returns t c =
    as_put (n.select_is c.args.manner c.args.select.now c.as_slice.result.now c.as_slice.ensures)
    (then_on c.in_ok-push.ensures (then_on c.in_ok-push_list_and_from.ensures (then_on c.in_ok-push_option.ensures (then_on c.in_ok-push_order.ensures (then_on c.in_ok-push_option-2.ensures c.push-2.ensures)))))

pub push_list_and_from-returns-in_ok-push_from-in-Whole : goal.push_list_and_from-returns-in_ok-push_from-in-Whole
push_list_and_from-returns-in_ok-push_from-in-Whole t c =
    as_put (n.whole_order c.args.manner (out-Select c.args.select.now).list (out-Select c.args.select.now).from c.as_slice-in-Whole.result.now c.as_slice.result.now c.in-Whole.is c.as_slice-in-Whole.ensures c.as_slice.ensures)
    (then_on c.in_ok-push_from-in-Whole.ensures c.push_list.ensures)

pub push_list_and_from-returns-in_ok-push_list-in-Reading : goal.push_list_and_from-returns-in_ok-push_list-in-Reading
push_list_and_from-returns-in_ok-push_list-in-Reading t c =
    as_put (n.reading_order c.args.manner (out-Select c.args.select.now).list (out-Select c.args.select.now).from c.as_slice-in-Reading.result.now c.as_slice-in-Reading-2.result.now c.in-Reading.is c.as_slice-in-Reading.ensures c.as_slice-in-Reading-2.ensures)
    (then_on c.in_ok-push_list-in-Reading.ensures c.push_from-in-Reading.ensures)
