use Rattle.std.proofs.Common.{◌≤◌, length}
use Rattle.plsql_parse.proofs.BodyLoops.{DeclsLead}
use Rattle.plsql_parse.proofs.declarations.decls_of.Given as goal

abbrev pub invariant-loop-alloc : goal.invariant-loop-alloc
invariant-loop-alloc l = record { begun : DeclsLead l.fn.tokens l.found l.tokens; shrinks : length l.tokens ≤ length l.fn.tokens }

abbrev pub decreases-loop-alloc : goal.decreases-loop-alloc
decreases-loop-alloc l = length l.tokens
