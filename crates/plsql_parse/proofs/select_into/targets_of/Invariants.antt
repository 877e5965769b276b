use Rattle.std.proofs.Common.{◌≤◌, length}
use Rattle.plsql_parse.proofs.TargetLoops.{TargetsLead}
use Rattle.plsql_parse.proofs.select_into.targets_of.Given as goal

abbrev pub invariant-loop-found : goal.invariant-loop-found
invariant-loop-found l = record { begun : TargetsLead l.fn.tokens l.found l.tokens; shrinks : length l.tokens ≤ length l.fn.tokens }

abbrev pub decreases-loop-found : goal.decreases-loop-found
decreases-loop-found l = length l.tokens
