-- The laws of a query whose rows carry values, for forms that belong together.
use Rattle.std.specs.Prelude.{◌≡◌, ℕ, ◌<◌, ◌^◌, List, [], map, length, slice_index_or, Ok}
use Rattle.away_trees.specs.declared.queries.Query.{Query}
use Rattle.away_trees.specs.declared.queries.Select.{Select}
use Rattle.away_trees.specs.declared.schemas.Schema.{Schema}
use Rattle.away_trees.specs.declared.statements.Function.{Function}
use Rattle.away_trees.specs.Count.{weight}
use Rattle.away_trees.specs.Fits.{FitsSchema}
use Rattle.away_types.specs.TypedSlots.{typed_slots}
use Rattle.away_types.specs.declared.slots.Slot.{Slot}
use Rattle.away_types.specs.CheckedFunctions.{IsChecked}
use Rattle.away_values.specs.declared.types.Ty.{Ty}
use Rattle.away_values.specs.declared.values.Value.{Value}
use Rattle.sql_meaning.specs.Context.{Rows}
use Rattle.plsql_meaning.specs.Equivalent.{answers, Equivalent}
use Rattle.block_forms.specs.declared.forms.Goto.{Goto}
use Rattle.block_forms.specs.declared.forms.Ssa.{Ssa}
use Rattle.block_forms.specs.Frames.{frame_of}
use Rattle.block_forms.specs.Lowered.{Lowered}
use Rattle.block_forms.specs.Named.{Named}
use Rattle.call_forms.specs.declared.forms.Anf.{Anf}
use Rattle.call_forms.specs.declared.forms.Tail.{Tail}
use Rattle.call_forms.specs.Called.{Called}
use Rattle.call_forms.specs.Carried.{Carried}
use Rattle.call_forms.specs.Templated.{Templated}
use Rattle.batch_law.specs.Batches.{IsBatch, Case, AnswersOfEach, start_of, Batched}
use Rattle.batch_law.specs.CallTables.{IsCallTable}
use Rattle.batch_law.specs.FunctionAnswers.{AnswersAsCalls}
use Rattle.batch_law.specs.Starts.{Start, AreCarried, start_row, working_table, IsJoined}

-- A query of one call and a query with carried values, of the same forms, over as many tables as
-- the schema has, where the first term gives starts.
abbrev pub OfStarts : (Query → Query → List Rows → List Value → List Start → Type 0) → Type 0
OfStarts P =
    (s : Schema) (written f : Function) (slots : List Slot)
    (goto : Goto) (ssa : Ssa) (anf : Anf) (tail : Tail)
    (one q : Query) (carried : List Ty) (first selects : List Select)
    → IsChecked s written f slots → Lowered f slots goto
    → Named (length slots) (length f.params) goto ssa → Called goto ssa anf
    → Templated f slots (length s.tables) goto ssa anf tail one
    → Carried f slots (length s.tables) goto ssa anf tail carried first selects q
    → (tables : List Rows) (args : List Value)
    → length tables ≡ length s.tables → length tables < 2 ^ 64
    → (starts : List Start) → AreCarried carried starts
    → working_table q tables args 0
    ≡ Ok (map (start_row (frame_of f (length slots) goto tables) anf tail) starts)
    → P one q tables args starts

-- The working tables of the query with carried values are those of each call, joined.
abbrev pub CarriedTablesAreJoined : Type 0
CarriedTablesAreJoined =
    OfStarts (λ one q tables args starts. (i : ℕ) → IsJoined q one tables args starts i)

-- The query over the rows of a table, and the query of one call, of the same forms: what the first
-- answers at each bound.
abbrev pub BatchesAnswer : Type 0
BatchesAnswer =
    (s : Schema) (written f : Function) (slots : List Slot)
    (goto : Goto) (ssa : Ssa) (anf : Anf) (tail : Tail) (one q : Query) (place : ℕ)
    → IsChecked s written f slots → Lowered f slots goto
    → Named (length slots) (length f.params) goto ssa → Called goto ssa anf
    → Templated f slots (length s.tables) goto ssa anf tail one
    → Batched f slots (length s.tables) goto ssa anf tail place q
    → (tables : List Rows) (args : List Value)
    → length tables ≡ length s.tables → length tables < 2 ^ 64 → place < length tables
    → (k : ℕ) → IsBatch q one tables args (map start_of (slice_index_or tables place [])) k

-- The rows of the calls that have ended by a bound are those of their answers at it, each as often.
abbrev pub EachAnswerIsThere : Type 0
EachAnswerIsThere =
    (s : Schema) (written f : Function) (slots : List Slot)
    (goto : Goto) (ssa : Ssa) (anf : Anf) (tail : Tail) (one : Query)
    → IsChecked s written f slots → Lowered f slots goto
    → Named (length slots) (length f.params) goto ssa → Called goto ssa anf
    → Templated f slots (length s.tables) goto ssa anf tail one
    → (tables : List Rows) → length tables ≡ length s.tables → length tables < 2 ^ 64
    → (starts : List Start) (k : ℕ) → AnswersOfEach one tables k starts

-- One of the three cases of a query over many calls is there, at each bound.
abbrev pub OneIsTheCase : Type 0
OneIsTheCase =
    (s : Schema) (written f : Function) (slots : List Slot)
    (goto : Goto) (ssa : Ssa) (anf : Anf) (tail : Tail) (one : Query)
    → IsChecked s written f slots → Lowered f slots goto
    → Named (length slots) (length f.params) goto ssa → Called goto ssa anf
    → Templated f slots (length s.tables) goto ssa anf tail one
    → (tables : List Rows) → length tables ≡ length s.tables → length tables < 2 ^ 64
    → (starts : List Start) (k : ℕ) → Case one tables k starts

-- Where the query of one call is equivalent to the function, and each row of the table is a call of
-- it, the query over the rows answers as the function does at each call: over all tables that fit
-- the schema.
abbrev pub BatchesAnswerAsFunctions : Type 0
BatchesAnswerAsFunctions =
    (s : Schema) (written f : Function) (slots : List Slot)
    (goto : Goto) (ssa : Ssa) (anf : Anf) (tail : Tail) (one q : Query) (place : ℕ)
    → IsChecked s written f slots → length s.tables < 2 ^ 64 → Lowered f slots goto
    → Named (length slots) (length f.params) goto ssa → Called goto ssa anf
    → Templated f slots (length s.tables) goto ssa anf tail one
    → Batched f slots (length s.tables) goto ssa anf tail place q
    → IsCallTable s place f → Equivalent s f (typed_slots slots) one
    → (tables : List Rows) → FitsSchema s tables
    → AnswersAsCalls q tables (map start_of (slice_index_or tables place [])) (weight f)
    (answers f (typed_slots slots) tables)
