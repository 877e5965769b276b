use Rattle.std.proofs.Common.{◌≡◌, ℕ, List, drop, map}
use Rattle.away_values.specs.declared.types.Ty.{Ty}
use Rattle.away_names.specs.Lookups.{is_among}
use Rattle.away_types.proofs.parameters.param_among.Given as goal

abbrev pub invariant-loop-p : goal.invariant-loop-p
invariant-loop-p l = is_among l.n (map (λ (p : List ℕ × Ty). p.0) l.params) ≡ is_among l.n (map (λ (p : List ℕ × Ty). p.0) (drop l.p-index l.params))
