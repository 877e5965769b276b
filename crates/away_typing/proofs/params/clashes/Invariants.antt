use Rattle.std.proofs.Common.{◌≡◌, drop}
use Rattle.away_typing.specs.Parameters.{clashes}
use Rattle.away_typing.proofs.params.clashes.Given as goal

abbrev pub invariant-loop-y : goal.invariant-loop-y
invariant-loop-y l = clashes l.x l.list ≡ clashes l.x (drop l.y-index l.list)
