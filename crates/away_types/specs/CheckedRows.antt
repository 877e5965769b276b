-- What a query is that was checked for all of its rows: it breaks no rule but perhaps the one on
-- answers. A rule above the least that is broken may be judged wrongly, which shows nowhere.
use Rattle.std.specs.Prelude.{◌≡◌, ℕ, List}
use Rattle.away_values.specs.declared.types.Ty.{Ty}
use Rattle.away_trees.specs.declared.queries.Query.{Query}
use Rattle.away_trees.specs.declared.schemas.Schema.{Schema}
use Rattle.away_names.specs.declared.note.Note.{Note}
use Rattle.away_typing.specs.declared.row_queries.RowsVerdict.{RowsVerdict}
use Rattle.away_typing.specs.RowQueries.{judged_rows}
use Rattle.away_types.specs.CheckedQueries.{resolved_file, resolved_query}
use Rattle.away_types.specs.Refusals.{IsUnbroken}

-- its parameters, the types of its columns, and the least rule but the one on answers that it
-- breaks
abbrev pub rows_judged : Schema → Query → RowsVerdict
rows_judged s q = judged_rows s (resolved_file s q)

abbrev pub rows_note : Schema → Query → Note
rows_note s q = (rows_judged s q).note

-- The tree, its parameters and the types are the checked ones of a written query that breaks no
-- rule but perhaps the one on answers under the schema.
pub record IsCheckedRows (s : Schema) (written checked : Query) (params : List (ℕ × Ty)) (columns : List Ty) : Type 0 where
  pub unbroken : IsUnbroken (rows_note s written)
  pub query : checked ≡ resolved_query s written
  pub params_are : params ≡ (rows_judged s written).params
  pub columns_are : columns ≡ (rows_judged s written).columns

-- They are those of some written query under some schema.
pub record IsCheckedRowsOfSome (checked : Query) (params : List (ℕ × Ty)) (columns : List Ty) : Type 0 where
  pub schema : Schema
  pub written : Query
  pub checked_is : IsCheckedRows schema written checked params columns
