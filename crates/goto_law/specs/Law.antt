-- The law: a goto form that is a function's answers what the function answers, within the
-- function's weight for each turn.
use Rattle.std.specs.Prelude.{◌≡◌, ℕ, suc, ◌*◌, ◌≤◌, List, length}
use Rattle.away_values.specs.declared.values.Value.{Value}
use Rattle.away_values.specs.declared.values.Answer.{Answer}
use Rattle.away_values.specs.declared.values.Answer.TheVariants as answer
use Rattle.away_trees.specs.declared.statements.Function.{Function}
use Rattle.away_trees.specs.Count.{weight}
use Rattle.away_types.specs.TypedSlots.{typed_slots}
use Rattle.away_types.specs.declared.slots.Slot.{Slot}
use Rattle.sql_meaning.specs.Context.{Rows}
use Rattle.plsql_meaning.specs.Functions.{function_answer, over}
use Rattle.block_forms.specs.declared.forms.Goto.{Goto}
use Rattle.block_forms.specs.Frames.{frame_of}
use Rattle.block_forms.specs.Lowered.{Lowered}
use Rattle.block_forms.specs.Machines.{IsOver, Ran}
use Rattle.block_forms.specs.Runs.{goto_runs}
use Rattle.block_forms.specs.OwnSlots.{OwnSlots}

-- the function and its goto form over tables: what it answers within so many turns, and the run of
-- so many visits
module _ (f : Function) (slots : List Slot) (g : Goto) (tables : List Rows) (args : List Value) where
  abbrev pub function_at : ℕ → Answer
  function_at n = function_answer (over tables (typed_slots slots)) f args n

  abbrev pub form_at : ℕ → Ran
  form_at k = goto_runs (frame_of f (length slots) g tables) g args k

-- A run of a form meets the function's answer within n turns: it has the answer, or where the
-- function needs more turns, it has more than n heads.
abbrev pub Meets : Answer → Ran → ℕ → Type 0
Meets answer.More run n = suc n ≤ run.heads
Meets (answer.Value v) run n = run.answer ≡ answer.Value v
Meets (answer.Fault c) run n = run.answer ≡ answer.Fault c
Meets (answer.Shape k) run n = run.answer ≡ answer.Shape k

-- what holds of each function with its goto form, over all tables and arguments
abbrev pub OfLowered : ((ℕ → Answer) → (ℕ → Ran) → Function → Type 0) → Type 0
OfLowered P =
    (f : Function) (slots : List Slot) (g : Goto) → Lowered f slots g → OwnSlots f slots → (tables : List Rows) (args : List Value)
    → length args ≡ length f.params → P (function_at f slots g tables args) (form_at f slots g tables args) f

abbrev pub KeepsAnswers : Type 0
KeepsAnswers = OfLowered (λ answers runs f. (n : ℕ) → Meets (answers n) (runs (suc n * weight f)) n)

abbrev pub OnlyItsAnswers : Type 0
OnlyItsAnswers = OfLowered (λ answers runs f. (k : ℕ) → IsOver (runs k).answer → answers k ≡ (runs k).answer)

abbrev pub Waits : Type 0
Waits = OfLowered (λ answers runs f. (n : ℕ) → answers n ≡ answer.More → (runs n).answer ≡ answer.More)

-- the same of one function and one goto form
pub record Keeps (f : Function) (slots : List Slot) (g : Goto) : Type 0 where
  pub answers : (tables : List Rows) (args : List Value) → length args ≡ length f.params → (n : ℕ)
      → Meets (function_at f slots g tables args n) (form_at f slots g tables args (suc n * weight f)) n
  pub only : (tables : List Rows) (args : List Value) → length args ≡ length f.params → (k : ℕ)
      → IsOver (form_at f slots g tables args k).answer → function_at f slots g tables args k ≡ (form_at f slots g tables args k).answer
  pub waits : (tables : List Rows) (args : List Value) → length args ≡ length f.params → (n : ℕ)
      → function_at f slots g tables args n ≡ answer.More → (form_at f slots g tables args n).answer ≡ answer.More
