-- The names of a schema.
use Rattle.std.specs.Prelude.{Bool, List, map, bytes_eq}
use Rattle.std.specs.List.{list_any}
use Rattle.away_trees.specs.declared.schemas.Schema.{Schema}
use Rattle.away_trees.specs.declared.schemas.TableSchema.{TableSchema}
use Rattle.away_trees.specs.declared.schemas.ColumnSchema.{ColumnSchema}
use Rattle.away_names.specs.declared.rule.Rule.TheVariants as rule
use Rattle.away_names.specs.declared.note.Note.{Note}
use Rattle.away_names.specs.Notes.{joined, breaks, all_notes}
use Rattle.away_names.specs.Lookups.{Name, has_double, is_kept}

abbrev pub column_names : TableSchema → List Name
column_names t = map (λ (c : ColumnSchema). c.name) t.columns

abbrev pub table_names : Schema → List Name
table_names s = map (λ (t : TableSchema). t.name) s.tables

-- the name stands among these
abbrev pub stands_in : Name → List Name → Bool
stands_in n = list_any (bytes_eq n)

abbrev pub kept : Name → Note
kept n = breaks rule.Reserved (is_kept n)

abbrev pub table_note : TableSchema → Note
table_note t = joined (joined (kept t.name) (breaks rule.Duplicates (has_double (column_names t)))) (all_notes kept (column_names t))

abbrev pub schema_note : Schema → Note
schema_note s = joined (breaks rule.Duplicates (has_double (table_names s))) (all_notes table_note s.tables)
