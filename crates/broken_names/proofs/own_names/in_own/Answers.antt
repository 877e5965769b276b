use Rattle.broken_names.proofs.Finding.{found_on}
use Rattle.broken_names.proofs.OwnSteps.{assign_own, block_own, continue_own, exit_own, into_own, loop_own, return_own}
use Rattle.broken_names.proofs.own_names.in_own.Goals as goal

pub returns-in-Block : goal.returns-in-Block
returns-in-Block c = found_on (block_own c.in-Block.body c.in-Block.is c.as_slice.ensures) _ c.in_defaults.ensures

pub returns-in-Assign : goal.returns-in-Assign
returns-in-Assign c = found_on (assign_own c.in-Assign.is) _ c.in_assignment.ensures

pub returns-in-Loop : goal.returns-in-Loop
returns-in-Loop c = found_on (loop_own c.in-Loop.body c.in-Loop.is) _ c.in_head.ensures

pub returns-in-Exit : goal.returns-in-Exit
returns-in-Exit c = found_on (exit_own c.in-Exit.is) _ c.in_maybe.ensures

pub returns-in-Continue : goal.returns-in-Continue
returns-in-Continue c = found_on (continue_own c.in-Continue.is) _ c.in_maybe-in-Continue.ensures

pub returns-in-Return : goal.returns-in-Return
returns-in-Return c = found_on (return_own c.in-Return.is) _ c.in_expr.ensures

pub returns-in-Into : goal.returns-in-Into
returns-in-Into c = found_on (into_own c.in-Into.is c.as_slice-in-Into.ensures) _ c.in_into.ensures
