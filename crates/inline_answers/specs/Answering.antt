-- What a query answers whose calls of a function were replaced.
use Rattle.std.specs.Prelude.{ℕ, ◌<◌, ◌^◌, List, length}
use Rattle.away_grammar.specs.Texts.{ReadsQuery}
use Rattle.away_trees.specs.Count.{weight}
use Rattle.away_trees.specs.Fits.{FitsSchema}
use Rattle.away_trees.specs.declared.queries.Query.{Query}
use Rattle.away_trees.specs.declared.schemas.Schema.{Schema}
use Rattle.away_trees.specs.declared.statements.Function.{Function}
use Rattle.away_types.specs.CheckedFunctions.{IsChecked}
use Rattle.away_types.specs.CheckedQueries.{resolved_query}
use Rattle.away_types.specs.CheckedRows.{rows_judged}
use Rattle.away_types.specs.TypedSlots.{typed_slots}
use Rattle.away_types.specs.declared.slots.Slot.{Slot}
use Rattle.away_values.specs.declared.types.Ty.{Ty}
use Rattle.away_values.specs.declared.values.Value.{Value}
use Rattle.sql_meaning.specs.Context.{Rows}
use Rattle.plsql_meaning.specs.Equivalent.{answers}
use Rattle.type_soundness.specs.Arguments.{Supplied}
use Rattle.call_forms.specs.declared.forms.Forms.{Forms}
use Rattle.equivalence.specs.Accepted.{AcceptedForms}
use Rattle.inline_law.specs.Answers.{AnswersFilled}
use Rattle.inline_law.specs.Filled.{CallingSelect}
use Rattle.inline_calls.specs.Judged.{judged_query}
use Rattle.inline_calls.specs.Resolving.{resolved}
use Rattle.inline_calls.specs.Written.{IsInlined}

-- the query's parameters, by their numbers, with their types
abbrev pub params_of : Schema → Function → CallingSelect → List (ℕ × Ty)
params_of s f c = (rows_judged s (judged_query f c)).params

-- The query answers as the select with its calls does, over all tables that fit the schema and all
-- arguments of its parameters.
pub record AnswersCalls (s : Schema) (f : Function) (slots : List Slot) (params : List (ℕ × Ty))
    (c : CallingSelect) (written : Query) : Type 0 where
  pub each : (tables : List Rows) → FitsSchema s tables
      → (args : List Value) → Supplied args params
      → AnswersFilled c (resolved_query s written) (weight f) tables args
      (answers f (typed_slots slots) tables)

-- What is written for a query that was read and a function that was checked, with its own forms.
abbrev pub InlinedQueriesAnswer : Function → List Slot → Type 0
InlinedQueriesAnswer f slots =
    (s : Schema) (given : Function) (forms : Forms) (one q written : Query) (bytes text : List ℕ)
    → IsChecked s given f slots → length s.tables < 2 ^ 64 → AcceptedForms s f slots forms one
    → ReadsQuery bytes q
    → (x : IsInlined s f slots forms.goto forms.ssa forms.anf forms.tail q text written)
    → AnswersCalls s f slots (params_of s f x.calls) (resolved s f x.calls) written
