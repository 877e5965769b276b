use Rattle.std.proofs.Common.{◌≤◌, length}
use Rattle.sql_text.proofs.Columns.{ColumnsLead}
use Rattle.sql_text.proofs.schemas.columns_of.Given as goal

abbrev pub invariant-loop-found : goal.invariant-loop-found
invariant-loop-found l = record { begun : ColumnsLead l.fn.tokens l.found l.tokens; shrinks : length l.tokens ≤ length l.fn.tokens }

abbrev pub decreases-loop-found : goal.decreases-loop-found
decreases-loop-found l = length l.tokens
