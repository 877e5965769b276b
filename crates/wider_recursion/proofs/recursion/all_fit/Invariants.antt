use Rattle.std.proofs.Common.{◌≡◌, length}
use Rattle.away_typing.specs.Wholes.{all_fit}
use Rattle.wider_recursion.proofs.recursion.all_fit.Given as goal

abbrev pub invariant-loop-ts : goal.invariant-loop-ts
invariant-loop-ts l = all_fit l.types l.kinds ≡ all_fit l.ts l.ks

abbrev pub decreases-loop-ts : goal.decreases-loop-ts
decreases-loop-ts l = length l.ts
