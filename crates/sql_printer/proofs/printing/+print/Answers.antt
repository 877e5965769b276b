use Rattle.std.proofs.Common.{ap, inl, inr}
use Rattle.away_trees.specs.Algebra.{from_of, item_of, key_of, select_of}
use Rattle.away_grammar.specs.Printing.{printing, with_commas}
use Rattle.sql_printer.proofs.Adding.{as_terminals, comma_on, commas_end, then_on, union_on}
use Rattle.sql_printer.proofs.PrintNodes as n
use Rattle.sql_printer.proofs.PrintNodes.{expr_terminals}
use Rattle.sql_printer.proofs.printing.+print.Goals as goal

pub add_from-loop-index-preserved : goal.add_from-loop-index-preserved
add_from-loop-index-preserved t c = comma_on (from_of printing) _ _ _ c.index-items-index.is c.loop-index-test.true c.loop-index.invariant c.in_ok-mark_if-2.ensures c.in_ok-add_from_item.ensures

pub add_items-loop-index-preserved : goal.add_items-loop-index-preserved
add_items-loop-index-preserved t c = comma_on (item_of printing) _ _ _ c.index-items-index.is c.loop-index-test.true c.loop-index.invariant c.in_ok-mark_if.ensures c.in_ok-add_item.ensures

pub add_list-loop-index-preserved : goal.add_list-loop-index-preserved
add_list-loop-index-preserved t c = comma_on expr_terminals _ _ _ c.index-list-index.is c.loop-index-test.true c.loop-index.invariant c.in_ok-mark_if.ensures c.in_ok-add_expr.ensures

pub add_order-loop-index-preserved : goal.add_order-loop-index-preserved
add_order-loop-index-preserved t c = comma_on (key_of printing) _ _ _ c.index-keys-index.is c.loop-index-test.true c.loop-index.invariant c.in_ok-mark_if-3.ensures c.in_ok-add_key.ensures

pub add_selects-loop-index-preserved : goal.add_selects-loop-index-preserved
add_selects-loop-index-preserved t c = union_on (select_of printing) _ _ _ c.index-selects-index.is c.loop-index-test.true c.loop-index.invariant c.in_ok-mark_if.ensures c.in_ok-mark_if-2.ensures c.in_ok-add_select.ensures

pub add_list-returns : goal.add_list-returns
add_list-returns t c =
    let listed = commas_end expr_terminals c.args.list.now c.loop-index.index c.loop-index-test.false c.loop-index.invariant in
    then_on c.in_ok-mark.ensures (then_on (as_terminals (ap with_commas (n.list_is c.args.list.now)) listed) c.mark-2.ensures)

pub add_inside-returns-in_ok-mark-in-Not : goal.add_inside-returns-in_ok-mark-in-Not
add_inside-returns-in_ok-mark-in-Not t c = as_terminals (n.not_terminals _ c.in-Not.is c.get.ensures) (then_on c.in_ok-mark-in-Not.ensures c.add_expr.ensures)

pub add_inside-returns-in_ok-add_expr-in-Is : goal.add_inside-returns-in_ok-add_expr-in-Is
add_inside-returns-in_ok-add_expr-in-Is t c = as_terminals (n.is_terminals _ c.in-Is.is c.get-in-Is.ensures) (then_on c.in_ok-add_expr-in-Is.ensures c.add_test.ensures)

pub add_inside-returns-in_ok-add_expr-in-Chain : goal.add_inside-returns-in_ok-add_expr-in-Chain
add_inside-returns-in_ok-add_expr-in-Chain t c =
    as_terminals (n.chain_terminals _ _ _ c.in-Chain.is c.get-in-Chain.ensures c.as_slice.ensures c.as_slice-in-Chain.ensures c.level_of_chain-level.ensures c.level_of_operands.ensures) (then_on c.in_ok-add_expr-in-Chain.ensures c.add_links.ensures)

pub add_inside-returns-in_ok-mark-in-Compare : goal.add_inside-returns-in_ok-mark-in-Compare
add_inside-returns-in_ok-mark-in-Compare t c =
    as_terminals (n.compare_terminals _ _ c.in-Compare.is c.get-in-Compare.ensures c.get-in-Compare-2.ensures c.comparison_mark.ensures) (then_on c.in_ok-add_expr-in-Compare.ensures (then_on c.in_ok-mark-in-Compare.ensures c.add_expr-in-Compare-2.ensures))

pub add_inside-returns-in_ok-mark-in-Between-2 : goal.add_inside-returns-in_ok-mark-in-Between-2
add_inside-returns-in_ok-mark-in-Between-2 t c =
    as_terminals (n.between_terminals _ c.in-Between.is c.get-in-Between.ensures c.get-in-Between-2.ensures c.get-in-Between-3.ensures)
    (then_on c.in_ok-add_expr-in-Between.ensures (then_on c.in_ok-mark_if-in-Between.ensures (then_on c.in_ok-mark-in-Between.ensures (then_on c.in_ok-add_expr-in-Between-2.ensures (then_on c.in_ok-mark-in-Between-2.ensures c.add_expr-in-Between-3.ensures)))))

pub add_inside-returns-in_ok-mark-in-OneOf : goal.add_inside-returns-in_ok-mark-in-OneOf
add_inside-returns-in_ok-mark-in-OneOf t c =
    as_terminals (n.one_of_terminals _ c.in-OneOf.is c.get-in-OneOf.ensures c.as_slice-in-OneOf.ensures)
    (then_on c.in_ok-add_expr-in-OneOf.ensures (then_on c.in_ok-mark_if-in-OneOf.ensures (then_on c.in_ok-mark-in-OneOf.ensures c.add_list.ensures)))

pub add_inside-returns-in_ok-add_expr-in-Cast : goal.add_inside-returns-in_ok-add_expr-in-Cast
add_inside-returns-in_ok-add_expr-in-Cast t c =
    as_terminals (n.cast_terminals _ c.in-Cast.is c.get-in-Cast.ensures) (then_on c.in_ok-mark-in-Cast.ensures (then_on c.in_ok-mark-in-Cast-2.ensures (then_on c.in_ok-add_expr-in-Cast.ensures c.add_type.ensures)))

pub add_inside-returns-in_ok-add_else-in-Cases : goal.add_inside-returns-in_ok-add_else-in-Cases
add_inside-returns-in_ok-add_else-in-Cases t c =
    as_terminals (n.cases_terminals _ _ c.in-Cases.is c.as_slice-in-Cases.ensures)
    (then_on c.in_ok-mark-in-Cases.ensures (then_on c.in_ok-add_arms-in-Cases.ensures (then_on c.in_ok-add_else-in-Cases.ensures c.mark-in-Cases-2.ensures)))

pub add_inside-returns-in_ok-add_function-in-Call : goal.add_inside-returns-in_ok-add_function-in-Call
add_inside-returns-in_ok-add_function-in-Call t c =
    as_terminals (n.call_terminals _ c.is_empty.result c.in-Call.is c.as_slice-in-Call.ensures c.is_empty.ensures.0 c.is_empty.ensures.1) (then_on c.in_ok-add_function-in-Call.ensures c.add_list-in-Call.ensures)

pub add_inside-returns-in-Scalar : goal.add_inside-returns-in-Scalar
add_inside-returns-in-Scalar t c = as_terminals (n.scalar_terminals _ c.in-Scalar.is c.get-in-Scalar.ensures) c.add_subquery.ensures

pub add_inside-returns-in_ok-mark-in-Exists : goal.add_inside-returns-in_ok-mark-in-Exists
add_inside-returns-in_ok-mark-in-Exists t c = as_terminals (n.exists_terminals _ c.in-Exists.is c.get-in-Exists.ensures) (then_on c.in_ok-mark-in-Exists.ensures c.add_subquery-in-Exists.ensures)

pub add_inside-returns-in_ok-mark-in-Neg : goal.add_inside-returns-in_ok-mark-in-Neg
add_inside-returns-in_ok-mark-in-Neg t c =
    let added = then_on c.in_ok-mark-in-Neg.ensures c.add_expr-in-Neg.ensures in
    elim c.in-Neg.is [
      | inl neg ↦ as_terminals (n.neg_terminals _ neg c.get-in-Neg.ensures) added
      | inr small ↦ as_terminals (n.neg_small_terminals _ small c.get-in-Neg.ensures) added
    ]

pub add_query-returns-in-None : goal.add_query-returns-in-None
add_query-returns-in-None t c = as_terminals (n.query_alone _ c.in-None.is c.as_slice.ensures) c.add_selects.ensures

pub add_query-returns-in_ok-add_recursive-in-Some : goal.add_query-returns-in_ok-add_recursive-in-Some
add_query-returns-in_ok-add_recursive-in-Some t c = as_terminals (n.query_with _ c.in-Some.is c.as_slice-in-Some.ensures) (then_on c.in_ok-add_recursive-in-Some.ensures c.add_selects-in-Some.ensures)

pub add_recursive-returns : goal.add_recursive-returns
add_recursive-returns t c =
    as_terminals (n.recursive_terminals c.args.recursive.now c.as_slice.ensures c.as_slice-2.ensures)
    (then_on c.in_ok-mark.ensures (then_on c.in_ok-mark-2.ensures (then_on c.in_ok-name.ensures (then_on c.in_ok-mark-3.ensures (then_on c.in_ok-add_names.ensures (then_on c.in_ok-mark-4.ensures (then_on c.in_ok-mark-5.ensures
    (then_on c.in_ok-mark-6.ensures (then_on c.in_ok-add_terms.ensures (then_on c.in_ok-add_select.ensures c.mark-7.ensures))))))))))

pub add_select-returns : goal.add_select-returns
add_select-returns t c =
    as_terminals (n.select_terminals c.args.select.now c.as_slice.ensures c.as_slice-2.ensures c.as_slice-3.ensures)
    (then_on c.in_ok-mark.ensures (then_on c.in_ok-add_items.ensures (then_on c.in_ok-add_from.ensures (then_on c.in_ok-add_where.ensures (then_on c.in_ok-add_order.ensures c.add_limit.ensures)))))

pub add_source-returns-in_ok-mark_if-in-Sub : goal.add_source-returns-in_ok-mark_if-in-Sub
add_source-returns-in_ok-mark_if-in-Sub t c = as_terminals (n.sub_terminals _ c.in-Sub.is c.get.ensures) (then_on c.in_ok-mark_if-in-Sub.ensures c.add_subquery.ensures)
