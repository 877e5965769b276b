use Rattle.std.proofs.Common.{◌≤◌, length}
use Rattle.sql_text.proofs.Names.{NamesLead}
use Rattle.sql_text.proofs.tables.names_of.Given as goal

abbrev pub invariant-loop-found : goal.invariant-loop-found
invariant-loop-found l = record { begun : NamesLead l.fn.tokens l.found l.tokens; shrinks : length l.tokens ≤ length l.fn.tokens }

abbrev pub decreases-loop-found : goal.decreases-loop-found
decreases-loop-found l = length l.tokens
