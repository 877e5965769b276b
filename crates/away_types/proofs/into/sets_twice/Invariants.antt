use Rattle.std.proofs.Common.{◌≡◌, ℕ, List, Option, length, map}
use Rattle.away_names.specs.Lookups.{doubled}
use Rattle.away_types.proofs.into.sets_twice.Given as goal

abbrev pub invariant-loop-rest : goal.invariant-loop-rest
invariant-loop-rest l = doubled (map (λ (t : List ℕ × Option ℕ). t.0) l.targets) ≡ doubled (map (λ (t : List ℕ × Option ℕ). t.0) l.rest)

abbrev pub decreases-loop-rest : goal.decreases-loop-rest
decreases-loop-rest l = length l.rest
