-- What a checked query is. A rule above the least that is broken may be judged wrongly, which shows
-- nowhere.
use Rattle.std.specs.Prelude.{◌≡◌, ℕ, List}
use Rattle.away_values.specs.declared.types.Ty.{Ty}
use Rattle.away_trees.specs.declared.queries.Query.{Query}
use Rattle.away_trees.specs.declared.schemas.Schema.{Schema}
use Rattle.away_names.specs.declared.note.Note.{Note}
use Rattle.away_names.specs.declared.note.File.{File}
use Rattle.away_names.specs.Files.{file}
use Rattle.away_typing.specs.declared.wholes.QueryVerdict.{QueryVerdict}
use Rattle.away_typing.specs.Wholes.{judged}
use Rattle.elaboration.specs.Whole.{marked_whole}
use Rattle.away_types.specs.Refusals.{IsUnbroken}

-- with what its names stand for, and its operations marked
abbrev pub resolved_query : Schema → Query → Query
resolved_query s q = marked_whole s (file s q).first.refers (file s q).query

abbrev pub resolved_file : Schema → Query → File
resolved_file s q = record (file s q) { query = resolved_query s q }

-- its parameters, the type of its first column, and the least rule that it breaks
abbrev pub judged_query : Schema → Query → QueryVerdict
judged_query s q = judged s (resolved_file s q)

abbrev pub query_note : Schema → Query → Note
query_note s q = (judged_query s q).note

-- The tree, its parameters and the type are the checked ones of a written query that breaks no rule
-- under the schema.
pub record IsCheckedQuery (s : Schema) (written checked : Query) (params : List (ℕ × Ty)) (first : Ty) : Type 0 where
  pub unbroken : IsUnbroken (query_note s written)
  pub query : checked ≡ resolved_query s written
  pub params_are : params ≡ (judged_query s written).params
  pub first_is : first ≡ (judged_query s written).result

-- They are those of some written query under some schema.
pub record IsCheckedQueryOfSome (checked : Query) (params : List (ℕ × Ty)) (first : Ty) : Type 0 where
  pub schema : Schema
  pub written : Query
  pub checked_is : IsCheckedQuery schema written checked params first
