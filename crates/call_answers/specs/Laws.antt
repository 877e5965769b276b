-- What the laws of this crate say, and what is promised of a function that was built.
use Rattle.std.specs.Prelude.{◌≡◌, ℕ, List, length}
use Rattle.away_values.specs.declared.values.Value.{Value}
use Rattle.away_trees.specs.declared.schemas.Schema.{Schema}
use Rattle.away_trees.specs.declared.statements.Function.{Function}
use Rattle.away_types.specs.CheckedFunctions.{IsChecked}
use Rattle.away_types.specs.declared.slots.Slot.{Slot}
use Rattle.away_types.specs.TypedSlots.{typed_slots}
use Rattle.call_meaning.specs.Calls.{calls, rec}
use Rattle.call_meaning.specs.Expands.{IsExpanded}
use Rattle.call_meaning.specs.Renamed.{renaming}
use Rattle.call_meaning.specs.Untails.{IsUntailed}
use Rattle.plsql_meaning.specs.Functions.{function_answer, over}
use Rattle.sql_meaning.specs.Context.{Rows}
use Rattle.call_expand.specs.Parts.{parts_of, self_part}

-- ---- a checked function in which the calls of a program are expanded

abbrev pub HasCallsExpanded : Schema → List Function → Function → List Slot → Type 0
HasCallsExpanded s fs checked slots =
    IsExpanded (parts_of s fs) renaming checked (typed_slots slots)

-- It answers as the functions that call one another.
abbrev pub AnswersAsProgram : Schema → List Function → Function → List Slot → Type 0
AnswersAsProgram s fs checked slots =
    (T : List Rows) (args : List Value) (n : ℕ) → length args ≡ length checked.params
    → function_answer (over T (typed_slots slots)) checked args n
    ≡ calls (parts_of s fs) 0 T args n

abbrev pub ExpansionsAnswer : Type 0
ExpansionsAnswer =
    (s : Schema) (fs : List Function) (checked : Function) (slots : List Slot)
    → HasCallsExpanded s fs checked slots → AnswersAsProgram s fs checked slots

-- A written function breaks no rule, and as it is checked it answers so.
pub record AnswersLikeProgram (s : Schema) (fs : List Function) (written checked : Function)
    (slots : List Slot) : Type 0 where
  pub checked_is : IsChecked s written checked slots
  pub answers : AnswersAsProgram s fs checked slots

-- ---- a checked function in which self calls are turns of a loop

abbrev pub HasSelfCallsAsTurns : Schema → Function → Function → List Slot → Type 0
HasSelfCallsAsTurns s f checked slots =
    IsUntailed (self_part s f) renaming checked (typed_slots slots)

-- It answers as the function that calls itself.
abbrev pub AnswersAsSelfCaller : Schema → Function → Function → List Slot → Type 0
AnswersAsSelfCaller s f checked slots =
    (T : List Rows) (args : List Value) (n : ℕ) → length args ≡ length checked.params
    → function_answer (over T (typed_slots slots)) checked args n ≡ rec (self_part s f) T args n

abbrev pub UntailingsAnswer : Type 0
UntailingsAnswer =
    (s : Schema) (f checked : Function) (slots : List Slot)
    → HasSelfCallsAsTurns s f checked slots → AnswersAsSelfCaller s f checked slots

pub record AnswersLikeSelfCaller (s : Schema) (f written checked : Function) (slots : List Slot)
    : Type 0 where
  pub checked_is : IsChecked s written checked slots
  pub answers : AnswersAsSelfCaller s f checked slots
