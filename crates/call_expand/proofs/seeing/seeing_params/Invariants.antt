use Rattle.std.proofs.Common.{◌≡◌, ℕ, List, [], drop, map}
use Rattle.away_values.specs.declared.types.Ty.{Ty}
use Rattle.call_expand.specs.Moving.{with_names}
use Rattle.call_expand.proofs.seeing.seeing_params.Given as goal

abbrev pub invariant-loop-p : goal.invariant-loop-p
invariant-loop-p l = with_names (map (λ (p : List ℕ × Ty). p.0) (drop l.p-index l.params)) l.at l.variables ≡ with_names (map (λ (p : List ℕ × Ty). p.0) l.params) l.k []
