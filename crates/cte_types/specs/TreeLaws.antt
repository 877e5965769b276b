-- The laws of the types of a compiled query.
use Rattle.std.specs.Prelude.{◌≡◌, ℕ, ◌≤◌, true, List, [], ◌++◌, slice_get}
use Rattle.away_trees.specs.declared.queries.Col.{Col}
use Rattle.away_trees.specs.declared.queries.Expr.{Expr}
use Rattle.away_trees.specs.declared.schemas.Schema.{Schema}
use Rattle.away_trees.specs.declared.statements.Function.{Function}
use Rattle.away_types.specs.declared.slots.Slot.{Slot}
use Rattle.away_types.specs.CheckedFunctions.{IsChecked}
use Rattle.away_typing.specs.declared.kind.Kind.TheVariants.{Of}
use Rattle.away_typing.specs.declared.params.Params.{Params}
use Rattle.away_typing.specs.Kinds.{fits}
use Rattle.away_typing.specs.ParameterLists.{with_expr}
use Rattle.away_typing.specs.Trees.{kind_of, uses_of}
use Rattle.away_typing.specs.Typing.{Frame, column, kind_at}
use Rattle.away_values.specs.declared.types.Ty.{Ty}
use Rattle.block_forms.specs.Expressions.{expressions}
use Rattle.block_forms.specs.Places.{Each}
use Rattle.sql_meaning.specs.Placed.{placed_at}
use Rattle.sql_meaning.specs.Reads.{slots_of}
use Rattle.cte_types.specs.Linked.{IsLinked}

-- Each slot that an expression reads has the type of the column that stands for it among the
-- columns of enclosing selects.
pub record HaveTypesOfSlots (frames : List Frame) (ref : ℕ → Col) (slots : List Ty) (e : Expr)
    : Type 0 where
  pub each : Each (λ i. column frames (ref i) ≡ kind_at (slice_get slots i)) (slots_of e)

-- What fits a type over slots is of the type in a query, over columns of the slots' types and
-- further tables.
abbrev pub PlacingKeepsKinds : Type 0
PlacingKeepsKinds =
    (e : Expr) (t : Ty) (ref : ℕ → Col) (slots : List Ty) (frames : List Frame)
    (tables more : List (List Ty)) → IsLinked e
    → HaveTypesOfSlots frames ref slots e
    → fits t (kind_of e (record { slots = slots; frames = []; tables = tables })) ≡ true
    → kind_of (placed_at t ref e)
    (record { slots = []; frames = frames; tables = tables ++ more })
    ≡ Of t

-- Aggregates, subqueries and columns are used as before, where no column is of the select in whose
-- list the expression stands.
abbrev pub PlacingKeepsUses : Type 0
PlacingKeepsUses =
    (e : Expr) (t : Ty) (ref : ℕ → Col) → ((i : ℕ) → 1 ≤ (ref i).level)
    → uses_of (placed_at t ref e) ≡ uses_of e

abbrev pub PlacingKeepsParameters : Type 0
PlacingKeepsParameters =
    (e : Expr) (t : Ty) (ref : ℕ → Col) (p : Params)
    → with_expr p (placed_at t ref e) ≡ with_expr p e

abbrev pub HasNoParameter : Expr → Type 0
HasNoParameter e = (p : Params) → with_expr p e ≡ p

-- The expressions of a checked function, and the fixed ones behind them, have no parameters.
abbrev pub ExpressionsHaveNoParameters : Type 0
ExpressionsHaveNoParameters =
    (schema : Schema) (written f : Function) (slots : List Slot) → IsChecked schema written f slots
    → Each HasNoParameter (expressions f)
