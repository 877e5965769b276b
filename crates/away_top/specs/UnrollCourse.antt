-- `unroll K SCHEMA FUNC`: a query is written in which one iteration runs up to K turns of a
-- function.
use Rattle.std.specs.Prelude.{
  ◌≡◌,
  ℕ,
  ◌&&◌,
  nat_le,
  if◌then◌else◌,
  List,
  [],
  ◌∷◌,
  Option,
  Some,
  None,
  codes,
}
use Rattle.std.specs.Io.KnownBytes.{Appends}
use Rattle.std.specs.Option.{option_and_then}
use Rattle.away_trees.specs.declared.queries.Query.{Query}
use Rattle.away_trees.specs.declared.schemas.Schema.{Schema}
use Rattle.away_trees.specs.declared.statements.Function.{Function}
use Rattle.away_types.specs.CheckedFunctions.{IsChecked}
use Rattle.away_types.specs.CheckedQueries.{resolved_query}
use Rattle.away_types.specs.FunctionChecks.{resolved_function, slots_of}
use Rattle.unrolling.specs.Unrolled.{EquivalentWithin, IsUnrolled}
use Rattle.away_top.specs.declared.status.Status.{Status}
use Rattle.away_top.specs.declared.status.Status.TheVariants.{Done}
use Rattle.away_top.specs.Arguments.{bound_of}
use Rattle.away_top.specs.Course.{Course, and_then, Exactly}
use Rattle.away_top.specs.Files.{Callable, over_function}
use Rattle.away_top.specs.Refusals.{IsFunction, IsSchema}
use Rattle.away_top.specs.RunCourse.{spelled}

-- a number from 1 to 64
abbrev pub turns_in : ℕ → Option ℕ
turns_in n = if nat_le 1 n && nat_le n 64 then Some n else None

-- one or more digits, as the number that they write, where it is from 1 to 64
unfoldable pub turns_of : List ℕ → Option ℕ
turns_of word = option_and_then turns_in (bound_of word)

-- ---- its end

-- The text reads as a query in which an iteration runs up to so many turns. So the query is
-- equivalent to the function, where that is checked under the schema.
pub record IsUnrolledOf (s : Schema) (f : Callable) (most : ℕ) (text : List ℕ) : Type 0 where
  pub query : Query
  pub unrolled : IsUnrolled s query text
  pub equivalent : (written : Function) → IsChecked s written f.function f.slots
      → EquivalentWithin s f.function f.slots most (resolved_query s query)

-- the end of a run that writes this
abbrev pub Unrolls : ℕ → List ℕ → Schema → Callable → Status → List ℕ → Type 0
Unrolls most made s f status output = IsUnrolledOf s f most made × Exactly Done made status output

abbrev pub with_turns : List ℕ → List ℕ → List ℕ → ℕ → Course ⊥
with_turns schema func made most = over_function schema func (Unrolls most made)

abbrev pub unroll_course : List ℕ → List ℕ → List ℕ → List ℕ → Course ⊥
unroll_course turns schema func made =
    and_then (spelled (turns_of turns)) (with_turns schema func made)

-- ---- the whole run

-- The word spells a number of turns. The bytes of one file read as a schema, and those of the other
-- as a function; neither breaks a rule. The output reads as a query that breaks no rule, where that
-- on recursive tables is the one of databases, and in which an iteration runs up to so many turns.
-- So the query is equivalent to the function.
pub record IsUnrolledFor (turns schema func output : List ℕ) : Type 0 where
  pub most : ℕ
  pub most_is : turns_of turns ≡ Some most
  pub tables : IsSchema schema
  pub function : IsFunction tables.schema func
  pub query : Query
  pub unrolled : IsUnrolled tables.schema query output
  pub equivalent : EquivalentWithin tables.schema
      (resolved_function tables.schema function.written)
      (slots_of tables.schema function.written) most (resolved_query tables.schema query)

-- Where the words are those of `unroll` and the files tell what they hold, such a query was
-- written.
abbrev pub WritesUnrolled : (List ℕ → Option (List ℕ)) → Option (List ℕ) → Option (List ℕ)
    → List (List ℕ) → Type 0
WritesUnrolled held before after words =
    (turns schema func tables function : List ℕ)
    → words ≡ codes "unroll" ∷ turns ∷ schema ∷ func ∷ []
    → held schema ≡ Some tables → held func ≡ Some function
    → (output : List ℕ) × IsUnrolledFor turns tables function output × Appends before after output
