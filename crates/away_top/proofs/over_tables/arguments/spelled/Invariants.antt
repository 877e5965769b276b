use Rattle.std.proofs.Common.{map, string_bytes}
use Rattle.away_top.proofs.ArgumentSteps.{SpelledTo}
use Rattle.away_top.proofs.over_tables.arguments.spelled.Given as goal

abbrev pub invariant-loop-i : goal.invariant-loop-i
invariant-loop-i l = SpelledTo l.params (map string_bytes l.words) l.i l.values
