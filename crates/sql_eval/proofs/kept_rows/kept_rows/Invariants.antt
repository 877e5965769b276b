use Rattle.std.proofs.Common.{◌≡◌}
use Rattle.sql_meaning.specs.AtBound.{rows_of_tables}
use Rattle.sql_eval.specs.Kept.{held_or, kept_table}
use Rattle.sql_eval.proofs.KeptRules.{keeping}
use Rattle.sql_eval.proofs.kept_rows.kept_rows.Given as goal

abbrev pub invariant-terms : goal.invariant-terms
invariant-terms l = kept_table l.test l.r (rows_of_tables l.tables) l.args l.bound ≡ keeping l.test l.r (rows_of_tables l.tables) l.args l.left (held_or l.held l.kept.list) l.now.list

abbrev pub decreases-terms : goal.decreases-terms
decreases-terms l = l.left
