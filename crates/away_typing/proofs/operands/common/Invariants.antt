use Rattle.std.proofs.Common.{◌≡◌, drop, fold}
use Rattle.away_typing.specs.Kinds.{meet, common}
use Rattle.away_typing.proofs.operands.common.Given as goal

abbrev pub invariant-loop-j : goal.invariant-loop-j
invariant-loop-j l = common l.list ≡ fold meet l.k (drop l.j-index l.list)
