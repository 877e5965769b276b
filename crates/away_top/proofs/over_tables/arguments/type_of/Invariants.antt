use Rattle.std.proofs.Common.{◌≡◌, length}
use Rattle.away_top.specs.Arguments.{type_of}
use Rattle.away_top.proofs.over_tables.arguments.type_of.Given as goal

abbrev pub invariant-loop-rest : goal.invariant-loop-rest
invariant-loop-rest l = type_of l.fn.params l.number ≡ type_of l.rest l.number

abbrev pub decreases-loop-rest : goal.decreases-loop-rest
decreases-loop-rest l = length l.rest
