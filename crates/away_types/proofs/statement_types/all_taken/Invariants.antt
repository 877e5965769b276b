use Rattle.std.proofs.Common.{◌≡◌, length}
use Rattle.away_types.specs.AskedBy.{asked_by}
use Rattle.away_types.specs.StatementTypes.{all_taken}
use Rattle.away_types.proofs.statement_types.all_taken.Given as goal

abbrev pub invariant-loop-ts : goal.invariant-loop-ts
invariant-loop-ts l = all_taken (asked_by l.a) l.targets l.kinds ≡ all_taken (asked_by l.a) l.ts l.ks

abbrev pub decreases-loop-ts : goal.decreases-loop-ts
decreases-loop-ts l = length l.ts
