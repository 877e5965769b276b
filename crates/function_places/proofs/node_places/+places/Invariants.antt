use Rattle.std.proofs.Common.{◌≤◌, length, ◌+◌, ◌*◌}
use Rattle.function_places.specs.NodePlaces.{statements, declarations, if_arms, case_arms}
use Rattle.function_places.proofs.NodeSteps.{Leads}
use Rattle.function_places.proofs.node_places.+places.Given as goal

abbrev pub decreases-in_statements : goal.decreases-in_statements
decreases-in_statements l = 16 * length l.tokens.now + 4

abbrev pub decreases-in_statement : goal.decreases-in_statement
decreases-in_statement l = 16 * length l.tokens.now + 3

abbrev pub decreases-in_loop : goal.decreases-in_loop
decreases-in_loop l = 16 * length l.tokens.now + 2

abbrev pub decreases-in_block : goal.decreases-in_block
decreases-in_block l = 16 * length l.tokens.now + 2

abbrev pub decreases-in_declarations : goal.decreases-in_declarations
decreases-in_declarations l = 16 * length l.tokens.now + 2

abbrev pub decreases-in_if : goal.decreases-in_if
decreases-in_if l = 16 * length l.tokens.now + 2

abbrev pub decreases-in_case : goal.decreases-in_case
decreases-in_case l = 16 * length l.tokens.now + 2

abbrev pub decreases-in_arm : goal.decreases-in_arm
decreases-in_arm l = 16 * length l.tokens.now + 1

abbrev pub decreases-in_else : goal.decreases-in_else
decreases-in_else l = 16 * length l.tokens.now + 1

abbrev pub invariant-in_statements-loop-alloc : goal.invariant-in_statements-loop-alloc
invariant-in_statements-loop-alloc l = record {
  leads : Leads statements l.fn.node l.fn.tokens statements l.left l.tokens;
  shrinks : length l.tokens ≤ length l.fn.tokens;
}

abbrev pub decreases-in_statements-loop-alloc : goal.decreases-in_statements-loop-alloc
decreases-in_statements-loop-alloc l = length l.tokens

abbrev pub invariant-in_declarations-loop-tokens : goal.invariant-in_declarations-loop-tokens
invariant-in_declarations-loop-tokens l = record {
  leads : Leads declarations l.fn.node l.fn.tokens declarations l.left l.tokens;
  shrinks : length l.tokens ≤ length l.fn.tokens;
}

abbrev pub decreases-in_declarations-loop-tokens : goal.decreases-in_declarations-loop-tokens
decreases-in_declarations-loop-tokens l = length l.tokens

abbrev pub invariant-in_if-loop-nodes : goal.invariant-in_if-loop-nodes
invariant-in_if-loop-nodes l = record {
  leads : Leads if_arms l.fn.node l.fn.tokens if_arms l.left l.tokens;
  shrinks : length l.tokens ≤ length l.fn.tokens;
}

abbrev pub decreases-in_if-loop-nodes : goal.decreases-in_if-loop-nodes
decreases-in_if-loop-nodes l = length l.tokens

abbrev pub invariant-in_case-loop-nodes : goal.invariant-in_case-loop-nodes
invariant-in_case-loop-nodes l = record {
  leads : Leads case_arms l.fn.node l.fn.tokens case_arms l.left l.tokens;
  shrinks : length l.tokens ≤ length l.fn.tokens;
}

abbrev pub decreases-in_case-loop-nodes : goal.decreases-in_case-loop-nodes
decreases-in_case-loop-nodes l = length l.tokens
