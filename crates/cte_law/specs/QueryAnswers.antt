-- The laws: the query answers what the runs of the forms answer, one iteration later, and needs as
-- many iterations as heads were visited.
use Rattle.std.specs.Prelude.{◌≡◌, ℕ, suc, ◌<◌, ◌^◌, List, length}
use Rattle.away_trees.specs.declared.queries.Query.{Query}
use Rattle.away_trees.specs.declared.schemas.Schema.{Schema}
use Rattle.away_trees.specs.declared.statements.Function.{Function}
use Rattle.away_types.specs.declared.slots.Slot.{Slot}
use Rattle.away_types.specs.CheckedFunctions.{IsChecked}
use Rattle.away_values.specs.declared.values.Answer.TheVariants as answer
use Rattle.away_values.specs.declared.values.Value.{Value}
use Rattle.sql_meaning.specs.Context.{Rows}
use Rattle.sql_meaning.specs.Working.{sql}
use Rattle.block_forms.specs.declared.forms.Goto.{Goto}
use Rattle.block_forms.specs.declared.forms.Ssa.{Ssa}
use Rattle.block_forms.specs.Frames.{frame_of}
use Rattle.block_forms.specs.Lowered.{Lowered}
use Rattle.block_forms.specs.Machines.{IsOver, Ran}
use Rattle.block_forms.specs.Named.{Named}
use Rattle.block_forms.specs.Runs.{ssa_runs}
use Rattle.call_forms.specs.declared.forms.Anf.{Anf}
use Rattle.call_forms.specs.declared.forms.Tail.{Tail}
use Rattle.call_forms.specs.Called.{Called}
use Rattle.call_forms.specs.Columned.{Columned}
use Rattle.call_forms.specs.Merged.{Merged}
use Rattle.call_forms.specs.TailRuns.{tail_runs}
use Rattle.call_forms.specs.Templated.{Templated}

-- An answer of the run of k visits is the query's at k + 1 iterations. Where that run visits h + 1
-- heads, the query has no answer at h.
pub record AnswersAs (q : Query) (tables : List Rows) (args : List Value) (runs : ℕ → Ran) : Type 0 where
  pub ends : (k : ℕ) → IsOver (runs k).answer → sql q tables args (suc k) ≡ (runs k).answer
  pub goes_on : (k h : ℕ) → (runs k).heads ≡ suc h → sql q tables args h ≡ answer.More

-- Over as many tables as the schema has, and at any arguments, the query answers as a run in the
-- function's frame.
abbrev pub OverEachTables : Schema → Function → List Slot → Goto → Query → (List Rows → List Value → ℕ → Ran) → Type 0
OverEachTables s f slots goto q runs =
    (tables : List Rows) (args : List Value) → length tables ≡ length s.tables → length tables < 2 ^ 64 → AnswersAs q tables args (runs tables args)

-- what holds of the forms of a function that is checked under a schema
abbrev pub OfForms : (Schema → Function → List Slot → Goto → Ssa → Anf → Tail → Query → Type 0) → Type 0
OfForms P =
    (s : Schema) (written f : Function) (slots : List Slot) (goto : Goto) (ssa : Ssa) (anf : Anf)
    (tail : Tail) (q : Query) → IsChecked s written f slots
    → Lowered f slots goto → Named (length slots) (length f.params) goto ssa → Called goto ssa anf
    → Templated f slots (length s.tables) goto ssa anf tail q
    → P s f slots goto ssa anf tail q

-- the query of a tail form answers as the tail form
abbrev pub QueryAnswersAsTailForm : Type 0
QueryAnswersAsTailForm =
    OfForms
    (λ s f slots goto ssa anf tail q. OverEachTables s f slots goto q
    (λ tables args. tail_runs (frame_of f (length slots) goto tables) anf tail args))

-- the query of forms that belong together answers as the SSA form
abbrev pub QueryAnswersAsSsa : Type 0
QueryAnswersAsSsa =
    OfForms
    (λ s f slots goto ssa anf tail q. Merged goto anf tail → Columned slots ssa anf tail
    → OverEachTables s f slots goto q (λ tables args. ssa_runs (frame_of f (length slots) goto tables) ssa args))
