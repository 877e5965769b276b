-- `batch SCHEMA FUNC TABLE`: one query is written for the calls that the rows of a table are.
use Rattle.std.specs.Prelude.{◌≡◌, ◌⊎◌, ℕ, List, [], ◌∷◌, Option, Some, None, codes}
use Rattle.std.specs.Io.KnownBytes.{Appends}
use Rattle.std.specs.List.{position_from}
use Rattle.std.specs.Str.{bytes_eq}
use Rattle.away_names.specs.declared.rule.Rule.TheVariants.{Tables}
use Rattle.away_names.specs.Rules.{number}
use Rattle.away_trees.specs.declared.queries.Query.{Query}
use Rattle.away_trees.specs.declared.schemas.Schema.{Schema}
use Rattle.away_trees.specs.declared.schemas.TableSchema.{TableSchema}
use Rattle.away_trees.specs.declared.statements.Function.{Function}
use Rattle.away_types.specs.CheckedFunctions.{IsChecked}
use Rattle.away_types.specs.CheckedQueries.{resolved_query}
use Rattle.away_types.specs.FunctionChecks.{resolved_function, slots_of}
use Rattle.batch_calls.specs.Batches.{AnswersAsCalls, IsBatch}
use Rattle.batch_calls.specs.CallTables.{IsCallTable}
use Rattle.away_top.specs.declared.status.Status.{Status}
use Rattle.away_top.specs.declared.status.Status.TheVariants.{Done, Refused}
use Rattle.away_top.specs.Course.{Course, Exactly}
use Rattle.away_top.specs.Files.{Callable, over_function}
use Rattle.away_top.specs.Lines.{numbered_rule, refusal}
use Rattle.away_top.specs.Refusals.{IsFunction, IsSchema}

-- the place of the table that has the name as it is written
unfoldable pub place_of : List ℕ → List TableSchema → Option ℕ
place_of name = position_from (λ (t : TableSchema). bytes_eq t.name name) 0

-- ---- its end

-- The text reads as a query for the calls that the rows of the table at this place are. So the
-- query answers as these calls do, where the function is checked under the schema.
pub record IsBatchOf (s : Schema) (f : Callable) (place : ℕ) (text : List ℕ) : Type 0 where
  pub query : Query
  pub batch : IsBatch s f.function place query text
  pub answers : (written : Function) → IsChecked s written f.function f.slots
      → AnswersAsCalls s f.function f.slots place (resolved_query s query)

-- the end of a run over the table at this place: the text is written, or the schema's file is
-- refused since the table's rows are no calls of the function
abbrev pub EndsAt : List ℕ → Schema → Callable → ℕ → List ℕ → Status → List ℕ → Type 0
EndsAt schema s f place made status output =
    (IsBatchOf s f place made × Exactly Done made status output)
    ⊎ (¬ (IsCallTable s place f.function) × Exactly Refused (refusal schema (codes "B1")) status output)

-- the same for a table that is looked for: the schema's file is refused where it isn't there
abbrev pub EndsWith : List ℕ → Schema → Callable → Option ℕ → List ℕ → Status → List ℕ → Type 0
EndsWith schema s f None made = Exactly Refused (refusal schema (numbered_rule (number Tables)))
EndsWith schema s f (Some place) made = EndsAt schema s f place made

abbrev pub batch_course : List ℕ → List ℕ → List ℕ → List ℕ → Course ⊥
batch_course schema func table made =
    over_function schema func (λ s f. EndsWith schema s f (place_of table s.tables) made)

-- ---- the whole run

-- The bytes of one file read as a schema, and those of the other as a function; neither breaks a
-- rule. The table of this name stands at a place of the schema, and the output reads as a query,
-- which breaks no rule but perhaps the one on answers, for the calls of the function that the
-- table's rows are. So the query answers as these calls do.
pub record IsBatchFor (schema func table output : List ℕ) : Type 0 where
  pub tables : IsSchema schema
  pub function : IsFunction tables.schema func
  pub place : ℕ
  pub place_is : place_of table tables.schema.tables ≡ Some place
  pub query : Query
  pub batch : IsBatch tables.schema (resolved_function tables.schema function.written) place query output
  pub answers : AnswersAsCalls tables.schema (resolved_function tables.schema function.written)
      (slots_of tables.schema function.written) place (resolved_query tables.schema query)

-- Where the words are those of `batch` and the files tell what they hold, such a query was written.
abbrev pub WritesBatch : (List ℕ → Option (List ℕ)) → Option (List ℕ) → Option (List ℕ) → List (List ℕ) → Type 0
WritesBatch held before after words =
    (schema func table tables function : List ℕ)
    → words ≡ codes "batch" ∷ schema ∷ func ∷ table ∷ []
    → held schema ≡ Some tables → held func ≡ Some function
    → (output : List ℕ) × IsBatchFor tables function table output × Appends before after output
