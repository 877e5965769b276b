use Rattle.std.proofs.Common.{inl, inr}
use Rattle.sql_printer.proofs.Adding.{as_terminals, goes_on, then_on, turned}
use Rattle.function_printer.proofs.AddedNodes as n
use Rattle.function_printer.proofs.closed.+close.Goals as goal

pub add_closed_links-loop-index-preserved : goal.add_closed_links-loop-index-preserved
add_closed_links-loop-index-preserved t c =
    goes_on (turned (n.chain_more c.args.level c.args.links.now _ _ c.index-links-index.is c.loop-index-test.true) c.loop-index.invariant) c.in_ok-add_closed_link.ensures

pub add_closed-returns-in_ok-mark-in-Not : goal.add_closed-returns-in_ok-mark-in-Not
add_closed-returns-in_ok-mark-in-Not t c = as_terminals (n.not_terminals _ c.in-Not.is c.get.ensures) (then_on c.in_ok-mark-in-Not.ensures c.add_closed_at.ensures)

pub add_closed-returns-in_ok-add_expr-in-Chain : goal.add_closed-returns-in_ok-add_expr-in-Chain
add_closed-returns-in_ok-add_expr-in-Chain t c =
    as_terminals (n.chain_terminals _ _ _ c.in-Chain.is c.get-in-Chain.ensures c.as_slice.ensures c.as_slice-in-Chain.ensures c.level_of_chain-level.ensures c.level_of_operands.ensures)
    (then_on c.in_ok-add_expr-in-Chain.ensures c.add_closed_links.ensures)

pub add_closed-returns-in_ok-mark-in-Compare : goal.add_closed-returns-in_ok-mark-in-Compare
add_closed-returns-in_ok-mark-in-Compare t c =
    as_terminals (n.compare_terminals _ _ c.in-Compare.is c.get-in-Compare.ensures c.get-in-Compare-2.ensures c.comparison_mark.ensures)
    (then_on c.in_ok-add_expr-in-Compare.ensures (then_on c.in_ok-mark-in-Compare.ensures c.add_closed_at-in-Compare.ensures))

pub add_closed-returns-in_ok-mark-in-Between-2 : goal.add_closed-returns-in_ok-mark-in-Between-2
add_closed-returns-in_ok-mark-in-Between-2 t c =
    as_terminals (n.between_terminals _ c.in-Between.is c.get-in-Between.ensures c.get-in-Between-2.ensures c.get-in-Between-3.ensures)
    (then_on c.in_ok-add_expr-in-Between.ensures (then_on c.in_ok-mark_if-in-Between.ensures (then_on c.in_ok-mark-in-Between.ensures (then_on c.in_ok-add_expr-in-Between-2.ensures (then_on c.in_ok-mark-in-Between-2.ensures c.add_closed_at-in-Between.ensures)))))

pub add_closed-returns-in_ok-add_expr-in-Cases : goal.add_closed-returns-in_ok-add_expr-in-Cases
add_closed-returns-in_ok-add_expr-in-Cases t c =
    as_terminals (n.cases_in_parentheses _ _ _ c.in-Cases.is) (then_on c.in_ok-mark-in-Cases.ensures (then_on c.in_ok-add_expr-in-Cases.ensures c.mark-in-Cases-2.ensures))

pub add_closed-returns-in_ok-mark-in-Neg : goal.add_closed-returns-in_ok-mark-in-Neg
add_closed-returns-in_ok-mark-in-Neg t c =
    let added = then_on c.in_ok-mark-in-Neg.ensures c.add_closed_at-in-Neg.ensures in
    elim c.in-Neg.is [
      | inl neg ↦ as_terminals (n.neg_terminals _ neg c.get-in-Neg.ensures) added
      | inr small ↦ as_terminals (n.neg_small_terminals _ small c.get-in-Neg.ensures) added
    ]
