use Rattle.std.proofs.Common.{◌≡◌}
use Rattle.sql_meaning.specs.AtBound.{rows_of_tables, table_of, worked_of}
use Rattle.sql_eval.proofs.working.recursive_rows.Given as goal

abbrev pub invariant-terms : goal.invariant-terms
invariant-terms l = table_of l.r (rows_of_tables l.tables) l.args l.bound ≡ worked_of l.r (rows_of_tables l.tables) l.args l.left l.done l.now

abbrev pub decreases-terms : goal.decreases-terms
decreases-terms l = l.left
