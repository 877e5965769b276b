use Rattle.std.proofs.Common.{◌≡◌, ◌++◌, drop, map, length}
use Rattle.away_typing.specs.Wholes.{padded}
use Rattle.away_typing.proofs.recursion.padded.Given as goal

abbrev pub invariant-loop-column : goal.invariant-loop-column
invariant-loop-column l = padded l.columns l.types ≡ l.all ++ padded (drop l._column-index l.columns) l.rest
