use Rattle.std.proofs.Common.{suc, ◌++◌, Some, None, sym, ap, ◌∙◌}
use Rattle.away_trees.specs.declared.queries.Expr.TheVariants as expr
use Rattle.away_trees.specs.declared.queries.Expr.TheViews.{out-Select}
use Rattle.away_trees.specs.Algebra.{expr_of, item_of, from_of, key_of, select_of, query_of}
use Rattle.away_trees.proofs.Equations as eq
use Rattle.sql_meaning.specs.Reads.{reading}
use Rattle.goto_check.specs.Passing.{passed, exprs_read, links_read, arms_read, option_reads, items_read, froms_read, keys_read, selects_read}
use Rattle.goto_check.proofs.Lists.{drop_here, drop_past}
use Rattle.goto_check.proofs.Passes.{passes_on, passes_end, and_then, in_turn, pass_nothing, pass_param, pass_chain, pass_compare, pass_between, pass_one_of, pass_cases, pass_call, pass_query, pass_select, pass_table, pass_sub}
use Rattle.goto_check.proofs.reads.+passing.Goals as goal
use Rattle.goto_check.proofs.reads.+passing.Goals.{pass_froms-in-Table, pass_froms-in-Sub}

pub pass_exprs-loop-e-preserved : goal.pass_exprs-loop-e-preserved
pass_exprs-loop-e-preserved t c d =
    passes_on (λ e. expr_of reading e d) c.args.names.now c.args.list.now c.loop-e.e-index c.loop-e.k _ (c.loop-e.invariant d) c.e-item.result _
    (drop_here c.args.list.now c.loop-e.e-index c.e-item.result c.loop-e-test.true c.e-item.is)
    (c.pass_expr-k.ensures d)

pub pass_exprs-returns : goal.pass_exprs-returns
pass_exprs-returns t c d = passes_end (λ e. expr_of reading e d) c.args.names.now c.args.list.now c.loop-e.e-index c.loop-e.k _ (c.loop-e.invariant d) (drop_past c.args.list.now c.loop-e.e-index c.loop-e-test.false)

pub pass_links-loop-link-preserved : goal.pass_links-loop-link-preserved
pass_links-loop-link-preserved t c d =
    passes_on (λ l. expr_of reading l.1 d) c.args.names.now c.args.links.now c.loop-link.link-index c.loop-link.k _ (c.loop-link.invariant d) c.link-item.result _
    (drop_here c.args.links.now c.loop-link.link-index c.link-item.result c.loop-link-test.true c.link-item.is)
    (c.pass_expr-k.ensures d)

pub pass_links-returns : goal.pass_links-returns
pass_links-returns t c d = passes_end (λ l. expr_of reading l.1 d) c.args.names.now c.args.links.now c.loop-link.link-index c.loop-link.k _ (c.loop-link.invariant d) (drop_past c.args.links.now c.loop-link.link-index c.loop-link-test.false)

pub pass_arms-loop-arm-preserved : goal.pass_arms-loop-arm-preserved
pass_arms-loop-arm-preserved t c d =
    passes_on (λ a. expr_of reading a.0 d ++ expr_of reading a.1 d) c.args.names.now c.args.arms.now c.loop-arm.arm-index c.loop-arm.k _ (c.loop-arm.invariant d) c.arm-item.result _
    (drop_here c.args.arms.now c.loop-arm.arm-index c.arm-item.result c.loop-arm-test.true c.arm-item.is)
    (c.pass_expr-k.ensures d ∙ (ap (λ k. passed c.args.names.now k (expr_of reading c.arm-item.result.1 d)) (c.pass_expr.ensures d) ∙ sym (in_turn c.args.names.now c.loop-arm.k (expr_of reading c.arm-item.result.0 d) (expr_of reading c.arm-item.result.1 d))))

pub pass_arms-returns : goal.pass_arms-returns
pass_arms-returns t c d = passes_end (λ a. expr_of reading a.0 d ++ expr_of reading a.1 d) c.args.names.now c.args.arms.now c.loop-arm.arm-index c.loop-arm.k _ (c.loop-arm.invariant d) (drop_past c.args.arms.now c.loop-arm.arm-index c.loop-arm-test.false)

pub pass_items-loop-item-preserved : goal.pass_items-loop-item-preserved
pass_items-loop-item-preserved t c d =
    passes_on (λ i. item_of reading i d) c.args.names.now c.args.list.now c.loop-item.item-index c.loop-item.k _ (c.loop-item.invariant d) c.item-item.result _
    (drop_here c.args.list.now c.loop-item.item-index c.item-item.result c.loop-item-test.true c.item-item.is)
    (c.pass_expr-k.ensures d)

pub pass_items-returns : goal.pass_items-returns
pass_items-returns t c d = passes_end (λ i. item_of reading i d) c.args.names.now c.args.list.now c.loop-item.item-index c.loop-item.k _ (c.loop-item.invariant d) (drop_past c.args.list.now c.loop-item.item-index c.loop-item-test.false)

pub pass_keys-loop-key-preserved : goal.pass_keys-loop-key-preserved
pass_keys-loop-key-preserved t c d =
    passes_on (λ k. key_of reading k d) c.args.names.now c.args.list.now c.loop-key.key-index c.loop-key.k _ (c.loop-key.invariant d) c.key-item.result _
    (drop_here c.args.list.now c.loop-key.key-index c.key-item.result c.loop-key-test.true c.key-item.is)
    (c.pass_expr-k.ensures d)

pub pass_keys-returns : goal.pass_keys-returns
pass_keys-returns t c d = passes_end (λ k. key_of reading k d) c.args.names.now c.args.list.now c.loop-key.key-index c.loop-key.k _ (c.loop-key.invariant d) (drop_past c.args.list.now c.loop-key.key-index c.loop-key-test.false)

pub pass_froms-loop-item-preserved : goal.pass_froms-loop-item-preserved
pass_froms-loop-item-preserved t c d =
    passes_on (λ f. from_of reading f d) c.args.names.now c.args.list.now c.loop-item.item-index c.loop-item.k _ (c.loop-item.invariant d) c.item-item.result _
    (drop_here c.args.list.now c.loop-item.item-index c.item-item.result c.loop-item-test.true c.item-item.is)
    (elim c.match-item.branch [
      | pass_froms-in-Table w ↦ w.k-is ∙ sym (pass_table c.args.names.now c.loop-item.k c.item-item.result _ d w.in-Table.is)
      | pass_froms-in-Sub w ↦ w.k-is ∙ (w.pass_query-k.ensures d ∙ (ap (λ q. passed c.args.names.now c.loop-item.k (query_of reading q d)) w.get.ensures ∙ sym (pass_sub c.args.names.now c.loop-item.k c.item-item.result w.in-Sub.q _ d w.in-Sub.is)))
    ])

pub pass_froms-returns : goal.pass_froms-returns
pass_froms-returns t c d = passes_end (λ f. from_of reading f d) c.args.names.now c.args.list.now c.loop-item.item-index c.loop-item.k _ (c.loop-item.invariant d) (drop_past c.args.list.now c.loop-item.item-index c.loop-item-test.false)

pub pass_query-loop-select-preserved : goal.pass_query-loop-select-preserved
pass_query-loop-select-preserved t c d =
    passes_on (λ s. select_of reading s d) c.args.names.now c.as_slice-select-items.result.now c.loop-select.select-index c.loop-select.k _ (c.loop-select.invariant d) c.select-item.result _
    (drop_here c.as_slice-select-items.result.now c.loop-select.select-index c.select-item.result c.loop-select-test.true c.select-item.is)
    (c.pass_select-k.ensures d)

pub pass_query-returns : goal.pass_query-returns
pass_query-returns t c d = passes_end (λ s. select_of reading s d) c.args.names.now c.as_slice-select-items.result.now c.loop-select.select-index c.loop-select.k _ (c.loop-select.invariant d) (drop_past c.as_slice-select-items.result.now c.loop-select.select-index c.loop-select-test.false)

pub pass_query-loop-select-init : goal.pass_query-loop-select-init
pass_query-loop-select-init t c d = ap (λ l. passed c.args.names.now c.args.k (selects_read d l)) c.as_slice-select-items.ensures ∙ sym (pass_query c.args.names.now c.args.k c.args.q.now d)

pub pass_select-returns : goal.pass_select-returns
pass_select-returns t c d =
    let n = c.args.names.now in
    let v = out-Select c.args.s.now in
    let e1 = c.pass_items-list.ensures (suc d) ∙ ap (λ l. passed n c.args.k (items_read (suc d) l)) c.as_slice.ensures in
    let e2 = and_then n _ _ _ _ _ e1 (c.pass_froms-from.ensures (suc d) ∙ ap (λ l. passed n c.pass_items-list.result (froms_read (suc d) l)) c.as_slice-2.ensures) in
    let e3 = and_then n _ _ _ _ (option_reads (suc d) v.filter) e2 (c.pass_option-filter.ensures (suc d)) in
    let e4 = and_then n _ _ _ _ _ e3 (c.pass_keys-order.ensures (suc d) ∙ ap (λ l. passed n c.pass_option-filter.result (keys_read (suc d) l)) c.as_slice-3.ensures) in
    and_then n _ _ _ _ (option_reads (suc d) v.limit) e4 (c.pass_option.ensures (suc d)) ∙ sym (pass_select n c.args.k c.args.s.now d)

pub pass_option-returns-in-Some : goal.pass_option-returns-in-Some
pass_option-returns-in-Some t c d = c.pass_expr.ensures d ∙ ap (λ e. passed c.args.names.now c.args.k (option_reads d e)) (sym c.in-Some.is)

pub pass_expr-returns-in-Param : goal.pass_expr-returns-in-Param
pass_expr-returns-in-Param t c d = sym (ap (λ e. passed c.args.names.now c.args.k (expr_of reading e d)) c.in-Param.is ∙ pass_param c.args.names.now c.args.k c.in-Param.field-0 d c.in-Param.field-1)

pub pass_expr-returns-in-Neg : goal.pass_expr-returns-in-Neg
pass_expr-returns-in-Neg t c d =
    c.pass_expr.ensures d ∙ (ap (λ e. passed c.args.names.now c.args.k (expr_of reading e d)) c.get.ensures ∙ sym (ap (λ e. passed c.args.names.now c.args.k (expr_of reading e d)) c.in-Neg.is ∙ ap (λ r. passed c.args.names.now c.args.k (r d)) (eq.of_neg reading c.in-Neg.x)))

pub pass_expr-returns-in-NegSmall : goal.pass_expr-returns-in-NegSmall
pass_expr-returns-in-NegSmall t c d =
    c.pass_expr-in-NegSmall.ensures d ∙ (ap (λ e. passed c.args.names.now c.args.k (expr_of reading e d)) c.get-in-NegSmall.ensures ∙ sym (ap (λ e. passed c.args.names.now c.args.k (expr_of reading e d)) c.in-NegSmall.is ∙ ap (λ r. passed c.args.names.now c.args.k (r d)) (eq.of_negsmall reading c.in-NegSmall.x)))

pub pass_expr-returns-in-Not : goal.pass_expr-returns-in-Not
pass_expr-returns-in-Not t c d =
    c.pass_expr-in-Not.ensures d ∙ (ap (λ e. passed c.args.names.now c.args.k (expr_of reading e d)) c.get-in-Not.ensures ∙ sym (ap (λ e. passed c.args.names.now c.args.k (expr_of reading e d)) c.in-Not.is ∙ ap (λ r. passed c.args.names.now c.args.k (r d)) (eq.of_not reading c.in-Not.x)))

pub pass_expr-returns-in-Is : goal.pass_expr-returns-in-Is
pass_expr-returns-in-Is t c d =
    c.pass_expr-in-Is.ensures d ∙ (ap (λ e. passed c.args.names.now c.args.k (expr_of reading e d)) c.get-in-Is.ensures ∙ sym (ap (λ e. passed c.args.names.now c.args.k (expr_of reading e d)) c.in-Is.is ∙ ap (λ r. passed c.args.names.now c.args.k (r d)) (eq.of_is reading c.in-Is.x c.in-Is.field-1 c.in-Is.field-2)))

pub pass_expr-returns-in-Cast : goal.pass_expr-returns-in-Cast
pass_expr-returns-in-Cast t c d =
    c.pass_expr-in-Cast.ensures d ∙ (ap (λ e. passed c.args.names.now c.args.k (expr_of reading e d)) c.get-in-Cast.ensures ∙ sym (ap (λ e. passed c.args.names.now c.args.k (expr_of reading e d)) c.in-Cast.is ∙ ap (λ r. passed c.args.names.now c.args.k (r d)) (eq.of_cast reading c.in-Cast.x c.in-Cast.field-1)))

pub pass_expr-returns-in-Scalar : goal.pass_expr-returns-in-Scalar
pass_expr-returns-in-Scalar t c d =
    c.pass_query.ensures d ∙ (ap (λ q. passed c.args.names.now c.args.k (query_of reading q d)) c.get-in-Scalar.ensures ∙ sym (ap (λ e. passed c.args.names.now c.args.k (expr_of reading e d)) c.in-Scalar.is ∙ ap (λ r. passed c.args.names.now c.args.k (r d)) (eq.of_scalar reading c.in-Scalar.q)))

pub pass_expr-returns-in-Exists : goal.pass_expr-returns-in-Exists
pass_expr-returns-in-Exists t c d =
    c.pass_query-in-Exists.ensures d ∙ (ap (λ q. passed c.args.names.now c.args.k (query_of reading q d)) c.get-in-Exists.ensures ∙ sym (ap (λ e. passed c.args.names.now c.args.k (expr_of reading e d)) c.in-Exists.is ∙ ap (λ r. passed c.args.names.now c.args.k (r d)) (eq.of_exists reading c.in-Exists.q)))

pub pass_expr-returns-in-Chain : goal.pass_expr-returns-in-Chain
pass_expr-returns-in-Chain t c d =
    let n = c.args.names.now in
    and_then n _ _ _ _ _ (c.pass_expr-in-Chain.ensures d ∙ ap (λ e. passed n c.args.k (expr_of reading e d)) c.get-in-Chain.ensures) (c.pass_links.ensures d ∙ ap (λ l. passed n c.pass_expr-in-Chain.result (links_read d l)) c.as_slice.ensures)
    ∙ sym (ap (λ e. passed n c.args.k (expr_of reading e d)) c.in-Chain.is ∙ pass_chain n c.args.k c.in-Chain.x c.in-Chain.links d)

pub pass_expr-returns-in-Compare : goal.pass_expr-returns-in-Compare
pass_expr-returns-in-Compare t c d =
    let n = c.args.names.now in
    and_then n _ _ _ _ _ (c.pass_expr-in-Compare.ensures d ∙ ap (λ e. passed n c.args.k (expr_of reading e d)) c.get-in-Compare.ensures) (c.pass_expr-in-Compare-2.ensures d ∙ ap (λ e. passed n c.pass_expr-in-Compare.result (expr_of reading e d)) c.get-in-Compare-2.ensures)
    ∙ sym (ap (λ e. passed n c.args.k (expr_of reading e d)) c.in-Compare.is ∙ pass_compare n c.args.k c.in-Compare.field-0 c.in-Compare.x c.in-Compare.y d)

pub pass_expr-returns-in-Between : goal.pass_expr-returns-in-Between
pass_expr-returns-in-Between t c d =
    let n = c.args.names.now in
    let two = and_then n _ _ _ _ _ (c.pass_expr-in-Between.ensures d ∙ ap (λ e. passed n c.args.k (expr_of reading e d)) c.get-in-Between.ensures) (c.pass_expr-two.ensures d ∙ ap (λ e. passed n c.pass_expr-in-Between.result (expr_of reading e d)) c.get-in-Between-2.ensures) in
    and_then n _ _ _ _ _ two (c.pass_expr-in-Between-2.ensures d ∙ ap (λ e. passed n c.pass_expr-two.result (expr_of reading e d)) c.get-in-Between-3.ensures)
    ∙ sym (ap (λ e. passed n c.args.k (expr_of reading e d)) c.in-Between.is ∙ pass_between n c.args.k c.in-Between.field-0 c.in-Between.x c.in-Between.low c.in-Between.high d)

pub pass_expr-returns-in-OneOf : goal.pass_expr-returns-in-OneOf
pass_expr-returns-in-OneOf t c d =
    let n = c.args.names.now in
    and_then n _ _ _ _ _ (c.pass_expr-in-OneOf.ensures d ∙ ap (λ e. passed n c.args.k (expr_of reading e d)) c.get-in-OneOf.ensures) (c.pass_exprs.ensures d ∙ ap (λ l. passed n c.pass_expr-in-OneOf.result (exprs_read d l)) c.as_slice-in-OneOf.ensures)
    ∙ sym (ap (λ e. passed n c.args.k (expr_of reading e d)) c.in-OneOf.is ∙ pass_one_of n c.args.k c.in-OneOf.field-0 c.in-OneOf.x c.in-OneOf.list d)

pub pass_expr-returns-in-Call : goal.pass_expr-returns-in-Call
pass_expr-returns-in-Call t c d =
    let n = c.args.names.now in
    (c.pass_exprs-in-Call.ensures d ∙ ap (λ l. passed n c.args.k (exprs_read d l)) c.as_slice-in-Call.ensures)
    ∙ sym (ap (λ e. passed n c.args.k (expr_of reading e d)) c.in-Call.is ∙ pass_call n c.args.k c.in-Call.field-0 c.in-Call.list d)

pub pass_expr-returns-in-None : goal.pass_expr-returns-in-None
pass_expr-returns-in-None t c d =
    let n = c.args.names.now in
    and_then n _ _ _ _ (option_reads d None) (c.pass_arms-of_arms.ensures d ∙ ap (λ l. passed n c.args.k (arms_read d l)) c.as_slice-in-Cases.ensures) (sym (pass_nothing n c.pass_arms-of_arms.result))
    ∙ sym (ap (λ e. passed n c.args.k (expr_of reading e d)) c.in-Cases.is ∙ (ap (λ o. passed n c.args.k (expr_of reading (expr.Cases c.in-Cases.arms o) d)) c.in-None.is ∙ pass_cases n c.args.k c.in-Cases.arms None d))

pub pass_expr-returns-in-Some : goal.pass_expr-returns-in-Some
pass_expr-returns-in-Some t c d =
    let n = c.args.names.now in
    and_then n _ _ _ _ (option_reads d (Some c.in-Some.e)) (c.pass_arms-of_arms.ensures d ∙ ap (λ l. passed n c.args.k (arms_read d l)) c.as_slice-in-Cases.ensures) (c.pass_expr-in-Some.ensures d ∙ ap (λ e. passed n c.pass_arms-of_arms.result (expr_of reading e d)) c.get-in-Some.ensures)
    ∙ sym (ap (λ e. passed n c.args.k (expr_of reading e d)) c.in-Cases.is ∙ (ap (λ o. passed n c.args.k (expr_of reading (expr.Cases c.in-Cases.arms o) d)) c.in-Some.is ∙ pass_cases n c.args.k c.in-Cases.arms (Some c.in-Some.e) d))
