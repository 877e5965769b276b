use Rattle.std.proofs.Common.{◌≡◌, drop, fold}
use Rattle.away_names.specs.Notes.{joined, all_notes}
use Rattle.away_names.specs.Schemas.{table_note}
use Rattle.away_names.proofs.schema_names.tables_note.Given as goal

abbrev pub invariant-loop-t : goal.invariant-loop-t
invariant-loop-t l = all_notes table_note l.tables ≡ fold (λ n x. joined n (table_note x)) l.note (drop l.t-index l.tables)
