use Rattle.std.proofs.Common.{◌≡◌, ◌++◌, drop, map}
use Rattle.away_typing.specs.Wholes.{types_in}
use Rattle.away_typing.proofs.recursion.column_types.Given as goal

abbrev pub invariant-loop-t : goal.invariant-loop-t
invariant-loop-t l = l.all ++ map types_in (drop l.t-index l.list) ≡ map types_in l.list
