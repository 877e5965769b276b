use Rattle.std.proofs.Common.{◌≡◌, ◌+◌, length}
use Rattle.away_names.specs.Lookups.{in_level}
use Rattle.away_names.proofs.lookups.in_level.Given as goal

abbrev pub invariant-loop-rest : goal.invariant-loop-rest
invariant-loop-rest l = (in_level l.n l.depth 0 l.level ≡ in_level l.n l.depth l.i l.rest) × (l.i + length l.rest ≡ length l.level)

abbrev pub decreases-loop-rest : goal.decreases-loop-rest
decreases-loop-rest l = length l.rest
