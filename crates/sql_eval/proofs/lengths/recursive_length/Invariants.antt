use Rattle.std.proofs.Common.{◌≡◌, ◌≤◌, ◌-◌}
use Rattle.sql_meaning.specs.AtBound.{rows_of_tables}
use Rattle.sql_eval.specs.Lengths.{length_within}
use Rattle.sql_eval.proofs.LengthRules.{ended_of}
use Rattle.sql_eval.proofs.lengths.recursive_length.Given as goal

abbrev pub invariant-terms : goal.invariant-terms
invariant-terms l = record { within : l.used ≤ l.bound; told : length_within l.r (rows_of_tables l.tables) l.args l.bound ≡ ended_of l.r (rows_of_tables l.tables) l.args (l.bound - l.used) l.used l.now }

abbrev pub decreases-terms : goal.decreases-terms
decreases-terms l = l.bound - l.used
