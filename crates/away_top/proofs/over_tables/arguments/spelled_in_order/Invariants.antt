use Rattle.std.proofs.Common.{map, string_bytes}
use Rattle.away_top.proofs.ParameterSteps.{MatchedTo}
use Rattle.away_top.proofs.over_tables.arguments.spelled_in_order.Given as goal

abbrev pub invariant-loop-i : goal.invariant-loop-i
invariant-loop-i l = MatchedTo l.params (map string_bytes l.words) l.i l.values
