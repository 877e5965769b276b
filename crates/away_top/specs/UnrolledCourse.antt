-- `unrolled BOUND K SCHEMA FUNC DIR ARG..`: the query that `unroll` writes is run over the tables
-- of a schema.
use Rattle.std.specs.Prelude.{◌≡◌, ℕ, List, ◌∷◌, Option, Some, codes}
use Rattle.std.specs.Io.KnownBytes.{Appends}
use Rattle.std.specs.List.{AllZip}
use Rattle.away_values.specs.declared.values.Value.{Value}
use Rattle.away_trees.specs.declared.queries.Query.{Query}
use Rattle.away_trees.specs.declared.schemas.Schema.{Schema}
use Rattle.away_types.specs.CheckedQueries.{resolved_query}
use Rattle.away_types.specs.FunctionChecks.{resolved_function, slots_of}
use Rattle.sql_meaning.specs.Context.{Rows}
use Rattle.sql_meaning.specs.Working.{sql}
use Rattle.unrolling.specs.Unrolled.{EquivalentWithin, IsUnrolled}
use Rattle.away_top.specs.declared.over_tables.program.Reply.TheVariants as reply
use Rattle.away_top.specs.declared.status.Status.{Status}
use Rattle.away_top.specs.Arguments.{bound_of, values_for}
use Rattle.away_top.specs.Course.{Course, and_then, ends}
use Rattle.away_top.specs.Files.{Callable, function_course, schema_course}
use Rattle.away_top.specs.Refusals.{IsFunction, IsSchema}
use Rattle.away_top.specs.RunAnswers.{AreBytesOf, Held, HoldsRows}
use Rattle.away_top.specs.RunCourse.{Tells, spelled}
use Rattle.away_top.specs.TableFiles.{tables_course}
use Rattle.away_top.specs.UnrollCourse.{IsUnrolledOf, turns_of}

-- ---- its end

-- what the query gives over these tables, with these arguments and within this bound, is told
abbrev pub TellsQuery : Query → List Rows → List Value → ℕ → Status → List ℕ → Type 0
TellsQuery q tables values bound = Tells (reply.Answer (sql q tables values bound))

-- The end of a run of the query with this text, in which an iteration runs up to so many turns.
abbrev pub TellsUnrolled : ℕ → ℕ → List ℕ → Schema → Callable → List Value → List Rows → Status
    → List ℕ → Type 0
TellsUnrolled bound most made s f values tables status output =
    (u : IsUnrolledOf s f most made)
    × TellsQuery (resolved_query s u.query) tables values bound status output

-- ---- its course: the numbers, the files, the arguments, one for each parameter, and the tables

abbrev pub with_values : ℕ → ℕ → List ℕ → List ℕ → Schema → Callable → List Value → Course ⊥
with_values bound most dir made s f values =
    and_then (tables_course dir s.tables) (λ tables. ends (TellsUnrolled bound most made s f values tables))

abbrev pub with_function : ℕ → ℕ → List ℕ → List (List ℕ) → List ℕ → Schema → Callable → Course ⊥
with_function bound most dir args made s f =
    and_then (spelled (values_for f.function.params args)) (with_values bound most dir made s f)

abbrev pub with_schema : ℕ → ℕ → List ℕ → List ℕ → List (List ℕ) → List ℕ → Schema → Course ⊥
with_schema bound most func dir args made s =
    and_then (function_course s func) (with_function bound most dir args made s)

abbrev pub with_turns : ℕ → List ℕ → List ℕ → List ℕ → List (List ℕ) → List ℕ → ℕ → Course ⊥
with_turns bound schema func dir args made most =
    and_then (schema_course schema) (with_schema bound most func dir args made)

abbrev pub with_bound : List ℕ → List ℕ → List ℕ → List ℕ → List (List ℕ) → List ℕ → ℕ → Course ⊥
with_bound turns schema func dir args made bound =
    and_then (spelled (turns_of turns)) (with_turns bound schema func dir args made)

abbrev pub unrolled_course : List ℕ → List ℕ → List ℕ → List ℕ → List ℕ → List (List ℕ) → List ℕ
    → Course ⊥
unrolled_course bound turns schema func dir args made =
    and_then (spelled (bound_of bound)) (with_bound turns schema func dir args made)

-- ---- the whole run

-- The status and the output tell what a query gives, within the bound, with the arguments that the
-- words spell, over the tables that their files hold. The query is one that `unroll` may write for
-- the function that its file reads as: it breaks no rule, where that on recursive tables is the one
-- of databases, and is equivalent to the function, up to so many turns in an iteration.
pub record IsUnrolledAnswer (held : Held) (bound turns schema func dir : List ℕ)
    (args : List (List ℕ)) (status : Status) (output : List ℕ) : Type 0 where
  pub limit : ℕ
  pub bound_is : bound_of bound ≡ Some limit
  pub most : ℕ
  pub most_is : turns_of turns ≡ Some most
  pub schema_bytes : List ℕ
  pub holds_schema : AreBytesOf held schema schema_bytes
  pub tables : IsSchema schema_bytes
  pub function_bytes : List ℕ
  pub holds_function : AreBytesOf held func function_bytes
  pub function : IsFunction tables.schema function_bytes
  pub values : List Value
  pub arguments_are : values_for (resolved_function tables.schema function.written).params args
      ≡ Some values
  pub rows : List Rows
  pub holds_tables : AllZip (HoldsRows held dir) tables.schema.tables rows
  pub query : Query
  pub text : List ℕ
  pub unrolled : IsUnrolled tables.schema query text
  pub equivalent : EquivalentWithin tables.schema
      (resolved_function tables.schema function.written)
      (slots_of tables.schema function.written) most (resolved_query tables.schema query)
  pub tells : TellsQuery (resolved_query tables.schema query) rows values limit status output

-- Where the words are those of `unrolled`, such an answer was told.
abbrev pub TellsAnswer : Held → Option (List ℕ) → Option (List ℕ) → List (List ℕ) → Status → Type 0
TellsAnswer held before after words result =
    (bound turns schema func dir : List ℕ) (args : List (List ℕ))
    → words ≡ codes "unrolled" ∷ bound ∷ turns ∷ schema ∷ func ∷ dir ∷ args
    → (output : List ℕ) × IsUnrolledAnswer held bound turns schema func dir args result output
    × Appends before after output
