use Rattle.std.proofs.Common.{◌≡◌, ◌++◌, length}
use Rattle.away_typing.specs.Parameters.{inserted}
use Rattle.away_typing.proofs.params.inserted.Given as goal

abbrev pub invariant-loop-rest : goal.invariant-loop-rest
invariant-loop-rest l = inserted l.x l.list ≡ l.smaller ++ inserted l.x l.rest

abbrev pub decreases-loop-rest : goal.decreases-loop-rest
decreases-loop-rest l = length l.rest
