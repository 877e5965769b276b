use Rattle.std.proofs.Common.{◌≡◌, length, []}
use Rattle.away_typing.specs.Typing.{both_from}
use Rattle.away_typing.proofs.shapes.both_of.Given as goal

abbrev pub invariant-loop-xs : goal.invariant-loop-xs
invariant-loop-xs l = both_from [] l.a l.b ≡ both_from l.done l.xs l.ys

abbrev pub decreases-loop-xs : goal.decreases-loop-xs
decreases-loop-xs l = length l.xs
