use Rattle.std.proofs.Common.{◌≡◌, ◌++◌, drop}
use Rattle.away_typing.specs.Typing.{types_of}
use Rattle.away_typing.proofs.shapes.types_of.Given as goal

abbrev pub invariant-loop-k : goal.invariant-loop-k
invariant-loop-k l = l.done ++ types_of (drop l.k-index l.list) ≡ types_of l.list
