use Rattle.std.proofs.Common.{sym, ap, ℕ, List, fold}
use Rattle.away_values.specs.declared.types.Ty.{Ty}
use Rattle.away_names.specs.Notes.{joined}
use Rattle.away_names.specs.Schemas.{kept}
use Rattle.away_types.proofs.parameters.names_note.Goals as goal

pub loop-p-init : goal.loop-p-init
loop-p-init c = ap (λ z. fold (λ n (p : List ℕ × Ty). joined n (kept p.0)) z c.args.params.now) (sym c.clean-note.ensures)
