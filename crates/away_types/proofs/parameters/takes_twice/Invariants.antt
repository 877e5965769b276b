use Rattle.std.proofs.Common.{◌≡◌, ℕ, List, length, map}
use Rattle.away_values.specs.declared.types.Ty.{Ty}
use Rattle.away_names.specs.Lookups.{doubled}
use Rattle.away_types.proofs.parameters.takes_twice.Given as goal

abbrev pub invariant-loop-rest : goal.invariant-loop-rest
invariant-loop-rest l = doubled (map (λ (p : List ℕ × Ty). p.0) l.params) ≡ doubled (map (λ (p : List ℕ × Ty). p.0) l.rest)

abbrev pub decreases-loop-rest : goal.decreases-loop-rest
decreases-loop-rest l = length l.rest
