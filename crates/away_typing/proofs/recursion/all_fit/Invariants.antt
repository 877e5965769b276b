use Rattle.std.proofs.Common.{◌≡◌, ◌++◌, drop, map, length}
use Rattle.away_typing.specs.Wholes.{all_fit}
use Rattle.away_typing.proofs.recursion.all_fit.Given as goal

abbrev pub invariant-loop-ts : goal.invariant-loop-ts
invariant-loop-ts l = all_fit l.types l.kinds ≡ all_fit l.ts l.ks

abbrev pub decreases-loop-ts : goal.decreases-loop-ts
decreases-loop-ts l = length l.ts
