use Rattle.std.proofs.Common.{ap, sym}
use Rattle.away_trees.specs.StatementAlgebra.{branch_of}
use Rattle.sql_printer.proofs.Adding.{as_terminals, mark_on, then_on}
use Rattle.function_printer.specs.FunctionTerminals.{printing_statements, statement_terminals}
use Rattle.function_printer.proofs.AddedNodes as n
use Rattle.function_printer.proofs.statements.+statements.Goals as goal

pub add_arms-loop-index-preserved : goal.add_arms-loop-index-preserved
add_arms-loop-index-preserved t c =
    mark_on c.args.between (λ a. branch_of printing_statements a) _ _ _ c.index-arms-index.is c.loop-index-test.true c.loop-index.invariant c.in_ok-mark_if.ensures c.in_ok-add_arm.ensures

pub add_statement-returns-in_ok-mark-in-Block-2 : goal.add_statement-returns-in_ok-mark-in-Block-2
add_statement-returns-in_ok-mark-in-Block-2 t c =
    as_terminals (n.block_terminals _ c.in-Block.is c.as_slice.ensures c.as_slice-in-Block.ensures)
    (then_on c.in_ok-add_label-in-Block.ensures (then_on c.in_ok-add_decls-in-Block.ensures (then_on c.in_ok-mark-in-Block.ensures (then_on c.in_ok-add_statements-in-Block.ensures (then_on c.in_ok-mark-in-Block-2.ensures c.add_closing.ensures)))))

pub add_statement-returns-in_ok-add_whole-in-Assign : goal.add_statement-returns-in_ok-add_whole-in-Assign
add_statement-returns-in_ok-add_whole-in-Assign t c =
    as_terminals (sym (ap statement_terminals c.in-Assign.is)) (then_on c.in_ok-name-in-Assign.ensures (then_on c.in_ok-mark-in-Assign.ensures (then_on c.in_ok-add_whole-in-Assign.ensures c.add_semicolon.ensures)))

pub add_statement-returns-in-None : goal.add_statement-returns-in-None
add_statement-returns-in-None t c =
    as_terminals (n.if_alone _ c.in-If.is c.in-None.is c.as_slice-in-If.ensures) (then_on c.in_ok-mark-in-If.ensures (then_on c.in_ok-add_arms-in-If.ensures c.add_end.ensures))

pub add_statement-returns-in-Some : goal.add_statement-returns-in-Some
add_statement-returns-in-Some t c =
    as_terminals (n.if_with_else _ c.in-If.is c.in-Some.is c.as_slice-in-If.ensures c.as_slice-in-Some.ensures) (then_on c.in_ok-mark-in-If.ensures (then_on c.in_ok-add_arms-in-If.ensures c.add_else.ensures))

pub add_statement-returns-in-None-other : goal.add_statement-returns-in-None-other
add_statement-returns-in-None-other t c =
    as_terminals (n.cases_alone _ c.in-Cases.is c.in-None-other.is c.as_slice-in-Cases.ensures)
    (then_on c.in_ok-mark-in-Cases.ensures (then_on c.in_ok-mark-in-Cases-2.ensures (then_on c.in_ok-add_arms-in-Cases.ensures c.add_end-in-None-other.ensures)))

pub add_statement-returns-in-Some-other : goal.add_statement-returns-in-Some-other
add_statement-returns-in-Some-other t c =
    as_terminals (n.cases_with_else _ c.in-Cases.is c.in-Some-other.is c.as_slice-in-Cases.ensures c.as_slice-in-Some-other.ensures)
    (then_on c.in_ok-mark-in-Cases.ensures (then_on c.in_ok-mark-in-Cases-2.ensures (then_on c.in_ok-add_arms-in-Cases.ensures c.add_else-in-Some-other.ensures)))

pub add_statement-returns-in_ok-mark-in-Loop-3 : goal.add_statement-returns-in_ok-mark-in-Loop-3
add_statement-returns-in_ok-mark-in-Loop-3 t c =
    as_terminals (n.loop_terminals _ c.in-Loop.is c.as_slice-in-Loop.ensures)
    (then_on c.in_ok-add_label-in-Loop.ensures (then_on c.in_ok-add_kind-in-Loop.ensures (then_on c.in_ok-mark-in-Loop.ensures (then_on c.in_ok-add_statements-in-Loop.ensures (then_on c.in_ok-mark-in-Loop-2.ensures (then_on c.in_ok-mark-in-Loop-3.ensures c.add_closing-in-Loop.ensures))))))

pub add_statement-returns-in_ok-add_condition-in-Exit : goal.add_statement-returns-in_ok-add_condition-in-Exit
add_statement-returns-in_ok-add_condition-in-Exit t c =
    as_terminals (sym (ap statement_terminals c.in-Exit.is)) (then_on c.in_ok-mark-in-Exit.ensures (then_on c.in_ok-add_name-in-Exit.ensures (then_on c.in_ok-add_condition-in-Exit.ensures c.add_semicolon-in-Exit.ensures)))

pub add_statement-returns-in_ok-add_condition-in-Continue : goal.add_statement-returns-in_ok-add_condition-in-Continue
add_statement-returns-in_ok-add_condition-in-Continue t c =
    as_terminals (sym (ap statement_terminals c.in-Continue.is))
    (then_on c.in_ok-mark-in-Continue.ensures (then_on c.in_ok-add_name-in-Continue.ensures (then_on c.in_ok-add_condition-in-Continue.ensures c.add_semicolon-in-Continue.ensures)))

pub add_statement-returns-in_ok-add_whole-in-Return : goal.add_statement-returns-in_ok-add_whole-in-Return
add_statement-returns-in_ok-add_whole-in-Return t c =
    as_terminals (sym (ap statement_terminals c.in-Return.is)) (then_on c.in_ok-mark-in-Return.ensures (then_on c.in_ok-add_whole-in-Return.ensures c.add_semicolon-in-Return.ensures))

pub add_statement-returns-in_ok-add_raised-in-Raise : goal.add_statement-returns-in_ok-add_raised-in-Raise
add_statement-returns-in_ok-add_raised-in-Raise t c =
    as_terminals (sym (ap statement_terminals c.in-Raise.is))
    (then_on c.in_ok-mark-in-Raise.ensures (then_on c.in_ok-known_name-in-Raise.ensures (then_on c.in_ok-add_raised-in-Raise.ensures c.add_semicolon-in-Raise.ensures)))

pub add_statement-returns-in-Into : goal.add_statement-returns-in-Into
add_statement-returns-in-Into t c = as_terminals (n.into_is _ c.in-Into.is c.as_slice-in-Into.ensures) c.add_into.ensures

pub add_statement-returns-in_ok-mark-in-Nothing : goal.add_statement-returns-in_ok-mark-in-Nothing
add_statement-returns-in_ok-mark-in-Nothing t c = as_terminals (sym (ap statement_terminals c.in-Nothing.is)) (then_on c.in_ok-mark-in-Nothing.ensures c.add_semicolon-in-Nothing.ensures)

pub add_arm-returns : goal.add_arm-returns
add_arm-returns t c = as_terminals (n.arm_terminals c.args.arm.now c.as_slice.ensures) (then_on c.in_ok-add_whole.ensures (then_on c.in_ok-mark.ensures c.add_statements.ensures))
