use Rattle.broken_names.proofs.Finding.{found_on}
use Rattle.broken_names.proofs.NodeSearch.{arm_here, arm_passed, behind_at, begun, begun_arms, block_at, cases_at, else_of_cases_at, else_of_if_at, if_at, in_arm, loop_at, own_here, statement_here, statement_passed, test_here}
use Rattle.broken_names.proofs.statements.+nodes.Goals as goal

pub in_arm-returns-then-node-eq0 : goal.in_arm-returns-then-node-eq0
in_arm-returns-then-node-eq0 t c = found_on (test_here c.if-node-eq0.true) _ c.in_expr.ensures

pub in_arm-returns-else-node-eq0 : goal.in_arm-returns-else-node-eq0
in_arm-returns-else-node-eq0 t c = found_on (in_arm c.if-node-eq0.false c.as_slice.ensures) _ c.in_statements.ensures

pub in_arms-loop-a-init : goal.in_arms-loop-a-init
in_arms-loop-a-init t c = begun_arms c.args.list.now c.args.node

pub in_arms-returns-then-left-nodes : goal.in_arms-returns-then-left-nodes
in_arms-returns-then-left-nodes t c =
    found_on (arm_here c.args.list.now c.loop-a.a-index _ c.a-item.result c.loop-a-test.true c.a-item.is c.loop-a.invariant) _ c.in_arm.ensures

pub in_arms-loop-a-preserved : goal.in_arms-loop-a-preserved
in_arms-loop-a-preserved t c =
    arm_passed c.args.list.now c.loop-a.a-index _ c.a-item.result c.in_ok-nodes.nodes c.loop-a-test.true c.a-item.is c.loop-a.invariant c.in_ok-nodes.ensures
    c.if-left-nodes.false

pub in_statement-returns-then-node-eq0 : goal.in_statement-returns-then-node-eq0
in_statement-returns-then-node-eq0 t c = found_on (own_here c.if-node-eq0.true) _ c.in_own.ensures

pub in_parts-returns-in-Block : goal.in_parts-returns-in-Block
in_parts-returns-in-Block t c =
    found_on (block_at c.in-Block.body _ c.in-Block.is c.as_slice-in-Block.ensures c.as_slice.ensures) _ c.in_block.ensures

pub in_parts-returns-in-Loop : goal.in_parts-returns-in-Loop
in_parts-returns-in-Loop t c = found_on (loop_at c.in-Loop.body _ c.in-Loop.is c.as_slice-in-Loop.ensures) _ c.in_turns.ensures

pub in_parts-returns-in-None : goal.in_parts-returns-in-None
in_parts-returns-in-None t c = found_on (if_at c.in-If.arms _ c.in-If.other c.in-If.is c.as_slice-in-None.ensures) _ c.in_arms.ensures

pub in_parts-returns-in-None-2 : goal.in_parts-returns-in-None-2
in_parts-returns-in-None-2 t c = found_on (if_at c.in-If.arms _ c.in-If.other c.in-If.is c.as_slice-in-None-2.ensures) _ c.in_arms-in-None-2.ensures

pub in_parts-returns-in-Some-2 : goal.in_parts-returns-in-Some-2
in_parts-returns-in-Some-2 t c =
    let behind = behind_at c.args.node c.in-Some-2.left c.as_slice-in-Some.result.now c.in_ok-behind_else-in-Some.field-0 c.in_ok-behind_else-in-Some.ensures c.in-Some-2.is in
    found_on (else_of_if_at c.in-If.arms c.as_slice-in-Some.result.now c.in-If.other c.in-Some.body _ c.in-If.is c.in-Some.is c.as_slice-in-Some-2.ensures behind
    c.as_slice-in-Some.ensures) _ c.in_statements.ensures

pub in_parts-returns-in-None-other : goal.in_parts-returns-in-None-other
in_parts-returns-in-None-other t c =
    found_on (cases_at c.in-Cases.arms _ c.in-Cases.other c.in-Cases.is c.as_slice-in-None-other.ensures) _ c.in_arms-in-None-other.ensures

pub in_parts-returns-in-None-3 : goal.in_parts-returns-in-None-3
in_parts-returns-in-None-3 t c =
    found_on (cases_at c.in-Cases.arms _ c.in-Cases.other c.in-Cases.is c.as_slice-in-None-3.ensures) _ c.in_arms-in-None-3.ensures

pub in_parts-returns-in-Some-3 : goal.in_parts-returns-in-Some-3
in_parts-returns-in-Some-3 t c =
    let behind = behind_at c.args.node c.in-Some-3.left c.as_slice-in-Some-other.result.now c.in_ok-behind_else-in-Some-other.field-0 c.in_ok-behind_else-in-Some-other.ensures c.in-Some-3.is in
    found_on (else_of_cases_at c.in-Cases.arms c.as_slice-in-Some-other.result.now c.in-Cases.other c.in-Some-other.body _ c.in-Cases.is c.in-Some-other.is c.as_slice-in-Some-3.ensures
    behind c.as_slice-in-Some-other.ensures) _ c.in_statements-in-Some-3.ensures

pub in_statements-loop-x-init : goal.in_statements-loop-x-init
in_statements-loop-x-init t c = begun c.args.list.now c.args.node

pub in_statements-returns-then-left-nodes : goal.in_statements-returns-then-left-nodes
in_statements-returns-then-left-nodes t c =
    found_on (statement_here c.args.list.now c.loop-x.x-index _ c.x-item.result c.loop-x-test.true c.x-item.is c.loop-x.invariant) _ c.in_statement.ensures

pub in_statements-loop-x-preserved : goal.in_statements-loop-x-preserved
in_statements-loop-x-preserved t c =
    statement_passed c.args.list.now c.loop-x.x-index _ c.x-item.result c.in_ok-nodes.nodes c.loop-x-test.true c.x-item.is c.loop-x.invariant
    c.in_ok-nodes.ensures c.if-left-nodes.false
