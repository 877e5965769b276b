use Rattle.std.proofs.Common.{◌≡◌, ℕ, List, drop, fold}
use Rattle.away_values.specs.declared.types.Ty.{Ty}
use Rattle.away_names.specs.Notes.{joined, all_notes}
use Rattle.away_names.specs.Schemas.{kept}
use Rattle.away_types.proofs.parameters.names_note.Given as goal

abbrev pub invariant-loop-p : goal.invariant-loop-p
invariant-loop-p l =
    all_notes (λ (p : List ℕ × Ty). kept p.0) l.params ≡ fold (λ n (p : List ℕ × Ty). joined n (kept p.0)) l.note (drop l.p-index l.params)
