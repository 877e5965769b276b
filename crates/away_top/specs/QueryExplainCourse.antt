-- `explain SCHEMA FILE`: by its bytes the file is a query's or a function's. Where it begins a query
-- it is judged as by `rows`: a refusal is told with the place and the reason, an accepted query with
-- its counts.
use Rattle.std.specs.Prelude.{◌≡◌, ◌⊎◌, ℕ, ◌≤◌, List, [], ◌∷◌, length, codes, Some}
use Rattle.std.specs.declared.option.Option.{Option}
use Rattle.std.specs.Io.KnownBytes.{Appends}
use Rattle.away_trees.specs.declared.queries.Query.{Query}
use Rattle.away_trees.specs.declared.schemas.Schema.{Schema}
use Rattle.away_types.specs.CheckedRows.{rows_judged}
use Rattle.query_places.specs.QueryPlaces.{BeginsQuery}
use Rattle.away_top.specs.declared.compile.Wanted.TheVariants as wanted
use Rattle.away_top.specs.declared.over_tables.program.Runnable.TheVariants as runnable
use Rattle.away_top.specs.declared.status.Status.{Status}
use Rattle.away_top.specs.declared.status.Status.TheVariants.{Done, Refused}
use Rattle.away_top.specs.CompileCourse.{compile_course}
use Rattle.away_top.specs.Course.{AtFile, Course, Exactly, Outcome, and_then, ends, reads}
use Rattle.away_top.specs.ExplainCourse.{Count, EndsOn, count, count_lines}
use Rattle.away_top.specs.Files.{schema_course}
use Rattle.away_top.specs.QueryExplanations.{ExplainsQuery, QueryExplainedBy}
use Rattle.away_top.specs.Refusals.{IsRowQuery, IsSchema}
use Rattle.away_top.specs.RunCourse.{with_bound}

-- ---- an accepted query

-- its parameters and its columns
abbrev pub query_counts : ℕ → ℕ → List Count
query_counts params columns = count (codes "parameters") params ∷ count (codes "columns") columns ∷ []

-- their counts are told of a query that is judged over the tables of the schema
abbrev pub TellsQuery : Schema → Query → Status → List ℕ → Type 0
TellsQuery s q =
    Exactly Done (count_lines (query_counts (length (rows_judged s q).params) (length (rows_judged s q).columns)))

-- ---- the course

-- how a run ends at these bytes of a file that begins a query
abbrev pub EndsOnQuery : List ℕ → Schema → List ℕ → Status → List ℕ → Type 0
EndsOnQuery name s bytes status output =
    QueryExplainedBy name s bytes status output
    ⊎ ((q : IsRowQuery s bytes) × TellsQuery s q.written status output)

-- and of one that doesn't, which is a function's and isn't longer than these are
abbrev pub EndsOnFunction : List ℕ → Schema → List ℕ → List ℕ → Status → List ℕ → Type 0
EndsOnFunction name s bytes made status output =
    AtFile name 1048576 (λ z. EndsOn name s z made status output) (Some bytes) status output

-- the bytes say which of the two it is
abbrev pub EndsOnFile : List ℕ → Schema → List ℕ → List ℕ → Status → List ℕ → Type 0
EndsOnFile name s bytes made status output =
    (BeginsQuery bytes × EndsOnQuery name s bytes status output)
    ⊎ ((¬ (BeginsQuery bytes)) × EndsOnFunction name s bytes made status output)

-- the file is read and judged over the tables of the schema
abbrev pub explained_course : List ℕ → List ℕ → Schema → Course ⊥
explained_course name made s = reads name 67108864 (λ bytes. ends (EndsOnFile name s bytes made))

abbrev pub explain_course : List ℕ → List ℕ → List ℕ → Course ⊥
explain_course schema name made = and_then (schema_course schema) (explained_course name made)

-- ---- the whole run

-- The bytes of one file read as a schema, which breaks no rule, and those of the other as a query
-- that breaks none but perhaps the one on answers. The output tells its counts.
pub record IsQueryCounted (schema query output : List ℕ) : Type 0 where
  pub tables : IsSchema schema
  pub asked : IsRowQuery tables.schema query
  pub output_is : output
      ≡ count_lines (query_counts (length (rows_judged tables.schema asked.written).params)
      (length (rows_judged tables.schema asked.written).columns))

-- Where the words are those of `explain` and the files tell what they hold, of which the second one
-- begins a query, such counts were written.
abbrev pub WritesQueryCounts : (List ℕ → Option (List ℕ)) → Option (List ℕ) → Option (List ℕ)
    → List (List ℕ) → Type 0
WritesQueryCounts held before after words =
    (schema name tables query : List ℕ)
    → words ≡ codes "explain" ∷ schema ∷ name ∷ []
    → held schema ≡ Some tables → held name ≡ Some query → BeginsQuery query
    → (output : List ℕ) × IsQueryCounted tables query output × Appends before after output

-- Where such a file was refused, and that of the schema wasn't, the place and the reason were
-- written.
abbrev pub WritesQueryReason : (List ℕ → Option (List ℕ)) → Option (List ℕ) → Option (List ℕ)
    → List (List ℕ) → Type 0
WritesQueryReason held before after words =
    (schema name tables query : List ℕ) (s : IsSchema tables)
    → words ≡ codes "explain" ∷ schema ∷ name ∷ []
    → held schema ≡ Some tables → length tables ≤ 67108864
    → held name ≡ Some query → length query ≤ 67108864 → BeginsQuery query
    → (output : List ℕ) × ExplainsQuery name s.schema query output × Appends before after output

-- ---- laws

-- A run of `compile` over the same files may end with the same status, where the second one doesn't
-- begin a query.
abbrev pub EndsAsCompile : Type 0
EndsAsCompile = (held : List ℕ → Option (List ℕ)) (schema func made : List ℕ) (status : Status)
    (output : List ℕ)
    → ((bytes : List ℕ) → held func ≡ Some bytes → ¬ (BeginsQuery bytes))
    → Outcome held (explain_course schema func made) status output
    → (other : List ℕ) × Outcome held (compile_course wanted.Query schema func made) status other

-- Where it begins one and is refused, a run of `rows` over the same files may be refused too,
-- whatever the tables and the arguments.
abbrev pub RefusesAsRows : Type 0
RefusesAsRows = (held : List ℕ → Option (List ℕ)) (schema name made output : List ℕ)
    → ((bytes : List ℕ) → held name ≡ Some bytes → BeginsQuery bytes)
    → Outcome held (explain_course schema name made) Refused output
    → (bound : ℕ) (dir : List ℕ) (args : List (List ℕ))
    → (other : List ℕ) × Outcome held (with_bound runnable.Rows schema name dir args bound) Refused other
