-- That what a checked query answers is of the types that its check found.
use Rattle.std.specs.Prelude.{◌≡◌, ℕ, List, [], ◌∷◌, Some, Ok}
use Rattle.away_values.specs.declared.types.Ty.{Ty}
use Rattle.away_values.specs.declared.types.Ty.TheVariants.{Text}
use Rattle.away_values.specs.declared.values.Value.{Value}
use Rattle.away_values.specs.declared.values.Answer.TheVariants as answer
use Rattle.away_trees.specs.Fits.{FitsSchema}
use Rattle.away_trees.specs.declared.queries.Query.{Query}
use Rattle.away_trees.specs.declared.schemas.Schema.{Schema}
use Rattle.sql_meaning.specs.Context.{Rows}
use Rattle.sql_meaning.specs.Working.{rows, sql}
use Rattle.away_types.specs.CheckedQueries.{IsCheckedQuery}
use Rattle.type_soundness.specs.Arguments.{Supplied}
use Rattle.type_soundness.specs.Sorts.{IsOf}
use Rattle.type_soundness.specs.Surroundings.{AreRows}

-- Over tables that fit the schema, with arguments of its parameters' types, and at every bound:
-- each of its rows has a value of the type of its first column and a text, and where it answers a
-- value, that is of that type.
pub record IsTyped (s : Schema) (q : Query) (params : List (ℕ × Ty)) (first : Ty) : Type 0 where
  pub rows_are : (tables : List Rows) (args : List Value) (k : ℕ) (out : Rows) → FitsSchema s tables → Supplied args params
      → rows q tables args k ≡ Some (Ok out) → AreRows (first ∷ Text ∷ []) out
  pub answer_is : (tables : List Rows) (args : List Value) (k : ℕ) (v : Value) → FitsSchema s tables → Supplied args params
      → sql q tables args k ≡ answer.Value v → IsOf first v

abbrev pub CheckedQueriesAreTyped : Type 0
CheckedQueriesAreTyped =
    (s : Schema) (written checked : Query) (params : List (ℕ × Ty)) (first : Ty) → IsCheckedQuery s written checked params first
    → IsTyped s checked params first
