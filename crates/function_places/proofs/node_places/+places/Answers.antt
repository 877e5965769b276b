use Rattle.std.proofs.Common.{ap, length, rules, sym, ◌∙◌, arith}
use Rattle.std.proofs.lemmas.Grind.{common_steps}
use Rattle.function_places.proofs.NodeSteps.{begun, and_on, found_on, found_here, lead_at, one_more, number_0, into_if, into_case, label_at, into_block, into_loop, into_declarations, into_plain, past_begin, into_turns, past_test, past_else, else_here, into_statement, past_statement, statement_here, into_here, past_decl, decl_here, if_here, into_if_arm, past_if_arm, into_if_else, case_here, into_case_arm, past_case_arm, into_case_else}
use Rattle.function_places.proofs.node_places.+places.Goals as goal

pub in_statements-returns-then-left-eq0 : goal.in_statements-returns-then-left-eq0
in_statements-returns-then-left-eq0 t c =
    found_here _ c.loop-alloc.invariant.leads (number_0 c.if-left-eq0.true (statement_here c.in_ok-passed.ensures.passed))
    (c.left.ensures ∙ ap length c.ahead-here.ensures)

pub in_statements-returns-then-passed : goal.in_statements-returns-then-passed
in_statements-returns-then-passed t c =
    found_here _ c.loop-alloc.invariant.leads (into_here c.in_ok-passed.ensures.passed c.if-passed.true c.if-left-passed.true)
    (c.left-then-passed.ensures ∙ ap length c.ahead-here.ensures)

pub in_statements-returns-then-left-passed : goal.in_statements-returns-then-left-passed
in_statements-returns-then-left-passed t c =
    found_on (lead_at c.ahead-here.ensures (and_on c.loop-alloc.invariant.leads (into_statement _ c.if-left-eq0.false))) _ c.in_statement.ensures

pub in_statements-loop-alloc-preserved : goal.in_statements-loop-alloc-preserved
in_statements-loop-alloc-preserved t c = record {
  leads = and_on c.loop-alloc.invariant.leads (past_statement c.in_ok-passed.ensures.passed c.if-left-passed.false);
  shrinks = first_of (search rules, grind (arith, common_steps));
}

pub in_statement-returns-then-eat : goal.in_statement-returns-then-eat
in_statement-returns-then-eat t c = found_on (into_if c.if-eat.ensures.yes) _ c.in_if.ensures

pub in_statement-returns-then-eat-2 : goal.in_statement-returns-then-eat-2
in_statement-returns-then-eat-2 t c = found_on (into_case
    (sym c.if-eat.ensures.no.0 ∙ c.if-eat-2.ensures.yes) c.in_ok-expect.ensures.found) _ c.in_case.ensures

pub in_statement-returns-then-sees_block : goal.in_statement-returns-then-sees_block
in_statement-returns-then-sees_block t c =
    found_on (into_block (label_at (c.if-eat-2.ensures.no.0 ∙ c.if-eat.ensures.no.0) c.in_ok-eat_label.ensures.taken)) _ c.in_block.ensures

pub in_statement-returns-else-sees_block : goal.in_statement-returns-else-sees_block
in_statement-returns-else-sees_block t c =
    found_on (into_loop (label_at (c.if-eat-2.ensures.no.0 ∙ c.if-eat.ensures.no.0) c.in_ok-eat_label.ensures.taken)) _ c.in_loop.ensures

pub in_loop-returns : goal.in_loop-returns
in_loop-returns t c = found_on (into_turns c.in_ok-kind_of.ensures.found c.in_ok-expect.ensures.found) _ c.in_statements.ensures

pub in_block-returns-then-eat : goal.in_block-returns-then-eat
in_block-returns-then-eat t c = found_on (into_declarations c.if-eat.ensures.yes) _ c.in_declarations.ensures

pub in_block-returns : goal.in_block-returns
in_block-returns t c = found_on (into_plain (sym c.if-eat.ensures.no.0 ∙ c.in_ok-expect.ensures.found)) _ c.in_statements.ensures

pub in_declarations-returns-then-left-eq0 : goal.in_declarations-returns-then-left-eq0
in_declarations-returns-then-left-eq0 t c =
    found_here _ c.loop-tokens.invariant.leads (number_0 c.if-left-eq0.true (decl_here c.in_ok-decl_of.ensures.found)) c.left-here.ensures

pub in_declarations-loop-tokens-preserved : goal.in_declarations-loop-tokens-preserved
in_declarations-loop-tokens-preserved t c = record {
  leads = and_on c.loop-tokens.invariant.leads (past_decl c.in_ok-decl_of.ensures.found c.if-left-eq0.false);
  shrinks = first_of (search rules, grind (arith, common_steps));
}

pub in_declarations-returns : goal.in_declarations-returns
in_declarations-returns t c = found_on (and_on c.loop-tokens.invariant.leads (past_begin c.in_ok-expect.ensures.found)) _ c.in_statements.ensures

pub in_if-returns-then-left-eq0 : goal.in_if-returns-then-left-eq0
in_if-returns-then-left-eq0 t c =
    found_here _ c.loop-nodes.invariant.leads (number_0 c.if-left-eq0.true (if_here c.in_ok-nodes.ensures.passed))
    (c.left.ensures ∙ ap length c.ahead-here.ensures)

pub in_if-returns-then-left-nodes : goal.in_if-returns-then-left-nodes
in_if-returns-then-left-nodes t c =
    found_on (lead_at c.ahead-here.ensures (and_on c.loop-nodes.invariant.leads (into_if_arm _ c.if-left-eq0.false))) _ c.in_arm.ensures

pub in_if-returns-then-not-eat_elsif : goal.in_if-returns-then-not-eat_elsif
in_if-returns-then-not-eat_elsif t c =
    found_on (and_on c.loop-nodes.invariant.leads
    (into_if_else c.in_ok-nodes.ensures.passed c.if-left-nodes.false c.if-not-eat_elsif.ensures.no.0)) _ c.in_else.ensures

pub in_if-loop-nodes-preserved : goal.in_if-loop-nodes-preserved
in_if-loop-nodes-preserved t c = record {
  leads = and_on c.loop-nodes.invariant.leads (past_if_arm c.in_ok-nodes.ensures.passed c.if-left-nodes.false c.if-not-eat_elsif.ensures.yes);
  shrinks = first_of (search rules, grind (arith, common_steps));
}

pub in_case-returns-then-left-eq0 : goal.in_case-returns-then-left-eq0
in_case-returns-then-left-eq0 t c =
    found_here _ c.loop-nodes.invariant.leads (number_0 c.if-left-eq0.true (case_here c.in_ok-nodes.ensures.passed))
    (c.left.ensures ∙ ap length c.ahead-here.ensures)

pub in_case-returns-then-left-nodes : goal.in_case-returns-then-left-nodes
in_case-returns-then-left-nodes t c =
    found_on (lead_at c.ahead-here.ensures (and_on c.loop-nodes.invariant.leads (into_case_arm _ c.if-left-eq0.false))) _ c.in_arm.ensures

pub in_case-returns-then-not-eat : goal.in_case-returns-then-not-eat
in_case-returns-then-not-eat t c =
    found_on (and_on c.loop-nodes.invariant.leads
    (into_case_else c.in_ok-nodes.ensures.passed c.if-left-nodes.false c.if-not-eat.ensures.no.0)) _ c.in_else.ensures

pub in_case-loop-nodes-preserved : goal.in_case-loop-nodes-preserved
in_case-loop-nodes-preserved t c = record {
  leads = and_on c.loop-nodes.invariant.leads (past_case_arm c.in_ok-nodes.ensures.passed c.if-left-nodes.false c.if-not-eat.ensures.yes);
  shrinks = first_of (search rules, grind (arith, common_steps));
}

pub in_arm-returns : goal.in_arm-returns
in_arm-returns t c = found_on (past_test c.in_ok-value_of.ensures.found c.in_ok-expect.ensures.found) _ c.in_statements.ensures

pub in_else-returns-then-node-eq0 : goal.in_else-returns-then-node-eq0
in_else-returns-then-node-eq0 t c =
    found_here _ (begun _ _ _) (number_0 c.if-node-eq0.true (else_here c.if-not-eat.ensures.yes)) c.left-here.ensures

pub in_else-returns : goal.in_else-returns
in_else-returns t c = found_on (one_more c.if-node-eq0.false (past_else c.if-not-eat.ensures.yes)) _ c.in_statements.ensures
