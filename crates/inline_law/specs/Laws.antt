-- The law of a query with calls, for forms that belong together.
use Rattle.std.specs.Prelude.{◌≡◌, ℕ, ◌<◌, ◌^◌, List, length}
use Rattle.away_trees.specs.Count.{weight}
use Rattle.away_trees.specs.Fits.{FitsSchema}
use Rattle.away_trees.specs.declared.queries.Query.{Query}
use Rattle.away_trees.specs.declared.schemas.Schema.{Schema}
use Rattle.away_trees.specs.declared.statements.Function.{Function}
use Rattle.away_types.specs.CheckedFunctions.{IsChecked}
use Rattle.away_types.specs.TypedSlots.{typed_slots}
use Rattle.away_types.specs.declared.slots.Slot.{Slot}
use Rattle.away_values.specs.declared.types.Ty.{Ty}
use Rattle.away_values.specs.declared.values.Value.{Value}
use Rattle.sql_meaning.specs.Context.{Rows}
use Rattle.sql_meaning.specs.Equivalent.{IsEquivalent}
use Rattle.plsql_meaning.specs.Equivalent.{answers}
use Rattle.block_forms.specs.Lowered.{Lowered}
use Rattle.block_forms.specs.Named.{Named}
use Rattle.block_forms.specs.declared.forms.Goto.{Goto}
use Rattle.block_forms.specs.declared.forms.Ssa.{Ssa}
use Rattle.call_forms.specs.Called.{Called}
use Rattle.call_forms.specs.Templated.{Templated}
use Rattle.call_forms.specs.declared.forms.Anf.{Anf}
use Rattle.call_forms.specs.declared.forms.Tail.{Tail}
use Rattle.type_soundness.specs.Arguments.{Supplied}
use Rattle.inline_law.specs.Answers.{AnswersFilled, ArgumentsFit, IsCalling}
use Rattle.inline_law.specs.Fails.{Fails}
use Rattle.inline_law.specs.Filled.{CallingSelect}
use Rattle.inline_law.specs.Typed.{IsTypedCalling}
use Rattle.inline_law.specs.Written.{Inlined}

-- The query is equivalent to the function at as many arguments as there are parameters, whatever
-- they are: what an expression of a query comes to has no more than its type's sort.
abbrev pub EquivalentAtAll : Schema → Function → List Slot → Query → Type 0
EquivalentAtAll s f slots one =
    IsEquivalent (FitsSchema s) (λ args. length args ≡ length f.params) (weight f)
    (answers f (typed_slots slots)) one

-- Where the query of one call is equivalent to the function, and no block that is reached fails,
-- the written query answers as the query with its calls does where each call's value is the
-- function's: over all tables that fit the schema and all arguments of the query's parameters.
abbrev pub QueriesAnswerFilled : Type 0
QueriesAnswerFilled =
    (s : Schema) (given f : Function) (slots : List Slot)
    (goto : Goto) (ssa : Ssa) (anf : Anf) (tail : Tail) (one written : Query)
    (q : CallingSelect) (params : List (ℕ × Ty))
    → IsChecked s given f slots → length s.tables < 2 ^ 64 → Lowered f slots goto
    → Named (length slots) (length f.params) goto ssa → Called goto ssa anf
    → Templated f slots (length s.tables) goto ssa anf tail one
    → (Fails goto → ⊥)
    → Inlined f slots (length s.tables) goto ssa anf tail q written
    → IsCalling s f params q → EquivalentAtAll s f slots one
    → (tables : List Rows) → FitsSchema s tables
    → (args : List Value) → Supplied args params
    → AnswersFilled q written (weight f) tables args (answers f (typed_slots slots) tables)

-- Arguments of the types of the parameters fit them.
abbrev pub TypedArgumentsFit : Type 0
TypedArgumentsFit =
    (s : Schema) (f : Function) (params : List (ℕ × Ty)) (q : CallingSelect)
    → IsTypedCalling s f params q → ArgumentsFit s f params q
