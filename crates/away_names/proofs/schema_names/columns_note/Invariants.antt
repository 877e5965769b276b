use Rattle.std.proofs.Common.{◌≡◌, drop, fold, map}
use Rattle.away_trees.specs.declared.schemas.ColumnSchema.{ColumnSchema}
use Rattle.away_names.specs.Notes.{joined, all_notes}
use Rattle.away_names.specs.Schemas.{kept}
use Rattle.away_names.proofs.schema_names.columns_note.Given as goal

abbrev pub invariant-loop-c : goal.invariant-loop-c
invariant-loop-c l = all_notes kept (map (λ (c : ColumnSchema). c.name) l.columns) ≡ fold (λ n x. joined n (kept x)) l.note (map (λ (c : ColumnSchema). c.name) (drop l.c-index l.columns))
