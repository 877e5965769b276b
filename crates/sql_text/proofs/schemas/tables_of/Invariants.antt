use Rattle.std.proofs.Common.{◌≤◌, length}
use Rattle.sql_text.proofs.Columns.{TablesLead}
use Rattle.sql_text.proofs.schemas.tables_of.Given as goal

abbrev pub invariant-loop-alloc : goal.invariant-loop-alloc
invariant-loop-alloc l = record { begun : TablesLead l.fn.tokens l.found l.tokens; shrinks : length l.tokens ≤ length l.fn.tokens }

abbrev pub decreases-loop-alloc : goal.decreases-loop-alloc
decreases-loop-alloc l = length l.tokens
