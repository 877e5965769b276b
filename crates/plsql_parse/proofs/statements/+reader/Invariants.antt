use Rattle.std.proofs.Common.{◌≤◌, length, ◌+◌, ◌*◌}
use Rattle.plsql_parse.proofs.BodyLoops.{StatementsLead, ElsifsLead, WhensLead}
use Rattle.plsql_parse.proofs.statements.+reader.Given as goal

abbrev pub decreases-statements_of : goal.decreases-statements_of
decreases-statements_of l = 16 * length l.tokens.now + 4

abbrev pub decreases-statement_of : goal.decreases-statement_of
decreases-statement_of l = 16 * length l.tokens.now + 3

abbrev pub decreases-labelled : goal.decreases-labelled
decreases-labelled l = 16 * length l.tokens.now + 2

abbrev pub decreases-marked : goal.decreases-marked
decreases-marked l = 16 * length l.tokens.now + 4

abbrev pub decreases-if_of : goal.decreases-if_of
decreases-if_of l = 16 * length l.tokens.now + 3

abbrev pub decreases-case_of : goal.decreases-case_of
decreases-case_of l = 16 * length l.tokens.now + 3

abbrev pub decreases-elsif_arms : goal.decreases-elsif_arms
decreases-elsif_arms l = 16 * length l.tokens.now + 2

abbrev pub decreases-when_arms : goal.decreases-when_arms
decreases-when_arms l = 16 * length l.tokens.now + 2

abbrev pub decreases-arm_of : goal.decreases-arm_of
decreases-arm_of l = 16 * length l.tokens.now + 1

abbrev pub decreases-otherwise : goal.decreases-otherwise
decreases-otherwise l = 16 * length l.tokens.now + 1

abbrev pub decreases-block : goal.decreases-block
decreases-block l = 16 * length l.tokens.now + 1

abbrev pub decreases-begun : goal.decreases-begun
decreases-begun l = 16 * length l.tokens.now + 5

abbrev pub decreases-repeated : goal.decreases-repeated
decreases-repeated l = 16 * length l.tokens.now + 1

abbrev pub decreases-repeating : goal.decreases-repeating
decreases-repeating l = 16 * length l.tokens.now + 5

abbrev pub invariant-statements_of-loop-alloc : goal.invariant-statements_of-loop-alloc
invariant-statements_of-loop-alloc l = record { begun : StatementsLead l.fn.tokens l.found l.tokens; shrinks : length l.tokens ≤ length l.fn.tokens }

abbrev pub decreases-statements_of-loop-alloc : goal.decreases-statements_of-loop-alloc
decreases-statements_of-loop-alloc l = length l.tokens

abbrev pub invariant-elsif_arms-loop-found : goal.invariant-elsif_arms-loop-found
invariant-elsif_arms-loop-found l = record { begun : ElsifsLead l.fn.tokens l.found l.tokens; shrinks : length l.tokens ≤ length l.fn.tokens }

abbrev pub decreases-elsif_arms-loop-found : goal.decreases-elsif_arms-loop-found
decreases-elsif_arms-loop-found l = length l.tokens

abbrev pub invariant-when_arms-loop-found : goal.invariant-when_arms-loop-found
invariant-when_arms-loop-found l = record { begun : WhensLead l.fn.tokens l.found l.tokens; shrinks : length l.tokens ≤ length l.fn.tokens }

abbrev pub decreases-when_arms-loop-found : goal.decreases-when_arms-loop-found
decreases-when_arms-loop-found l = length l.tokens
