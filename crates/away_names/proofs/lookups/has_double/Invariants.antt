use Rattle.std.proofs.Common.{◌≡◌, length}
use Rattle.away_names.specs.Lookups.{doubled}
use Rattle.away_names.proofs.lookups.has_double.Given as goal

abbrev pub invariant-loop-rest : goal.invariant-loop-rest
invariant-loop-rest l = doubled l.names ≡ doubled l.rest

abbrev pub decreases-loop-rest : goal.decreases-loop-rest
decreases-loop-rest l = length l.rest
