use Rattle.std.proofs.Common.{sym, ap, fold}
use Rattle.away_names.specs.Notes.{joined}
use Rattle.away_names.specs.Schemas.{table_note}
use Rattle.away_names.proofs.schema_names.tables_note.Goals as goal

pub loop-t-init : goal.loop-t-init
loop-t-init c = ap (λ z. fold (λ n x. joined n (table_note x)) z c.args.tables.now) (sym c.clean-note.ensures)
