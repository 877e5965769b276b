-- A query over the rows of a table of calls answers as the function does at each.
use Rattle.std.proofs.Common.{◌≡◌, ℕ, ◌<◌, ◌^◌, List, [], map, length, sym, subst}
use Rattle.std.specs.Prelude.{slice_index_or}
use Rattle.away_trees.specs.declared.queries.Query.{Query}
use Rattle.away_trees.specs.declared.schemas.Schema.{Schema}
use Rattle.away_trees.specs.declared.statements.Function.{Function}
use Rattle.away_trees.specs.Count.{weight}
use Rattle.away_trees.specs.Fits.{FitsSchema}
use Rattle.away_types.specs.TypedSlots.{typed_slots}
use Rattle.away_types.specs.declared.slots.Slot.{Slot}
use Rattle.away_types.specs.CheckedFunctions.{IsChecked}
use Rattle.sql_meaning.specs.Context.{Rows}
use Rattle.sql_meaning.specs.Typed.{AreTyped}
use Rattle.plsql_meaning.specs.Equivalent.{answers, types_of, Equivalent}
use Rattle.plsql_meaning.specs.Functions.{over}
use Rattle.plsql_meaning.proofs.FunctionLaws.{no_shape}
use Rattle.block_forms.specs.declared.forms.Goto.{Goto}
use Rattle.block_forms.specs.declared.forms.Ssa.{Ssa}
use Rattle.block_forms.specs.Lowered.{Lowered}
use Rattle.block_forms.specs.Named.{Named}
use Rattle.call_forms.specs.declared.forms.Anf.{Anf}
use Rattle.call_forms.specs.declared.forms.Tail.{Tail}
use Rattle.call_forms.specs.Called.{Called}
use Rattle.call_forms.specs.Templated.{Templated}
use Rattle.batch_law.specs.Batches.{start_of, Batched}
use Rattle.batch_law.specs.CallTables.{IsCallTable}
use Rattle.batch_law.specs.FunctionAnswers.{AnswersAsCalls}
use Rattle.batch_law.specs.Starts.{Start}
use Rattle.batch_law.proofs.CallTables as calls
use Rattle.batch_law.proofs.FunctionAnswers.{answers_as_calls}
use Rattle.batch_law.proofs.Whole.{batch_answers, answers_of_calls, call_faults, one_of_three}

module _ (s : Schema) (written f : Function) (slots : List Slot) (g : Goto) (z : Ssa) (a : Anf) (r : Tail) (o q : Query) (place : ℕ)
    (checked : IsChecked s written f slots) (few : length s.tables < 2 ^ 64) (lowered : Lowered f slots g)
    (named : Named (length slots) (length f.params) g z) (called : Called g z a) (templated : Templated f slots (length s.tables) g z a r o)
    (batched : Batched f slots (length s.tables) g z a r place q) (table : IsCallTable s place f)
    (same : Equivalent s f (typed_slots slots) o) (tables : List Rows) (fits : FitsSchema s tables) where
  abbrev starts : List Start
  starts = map start_of (slice_index_or tables place [])

  as_many : length tables ≡ length s.tables
  as_many = calls.as_many s.tables tables fits

  small : length tables < 2 ^ 64
  small = subst (λ n. n < 2 ^ 64) (sym as_many) few

  there : place < length tables
  there = subst (λ n. place < n) (sym as_many) (calls.is_there s.tables place table.table table.is)

  pub function_answers : AnswersAsCalls q tables starts (weight f) (answers f (typed_slots slots) tables)
  function_answers =
      answers_as_calls (FitsSchema s) (AreTyped (types_of f)) (weight f) (answers f (typed_slots slots)) q o tables starts same fits
      (calls.calls_typed s place f table tables fits) (λ vs n k. no_shape (over tables (typed_slots slots)) f vs n k)
      (λ vs j c e. call_faults s written f slots g z a r o checked templated tables as_many small vs j c e)
      (λ k. batch_answers s written f slots g z a r o q place checked lowered named called templated batched tables [] as_many small there k)
      (λ k. one_of_three s written f slots g z a r o checked templated tables as_many small lowered named called starts k)
      (λ k. answers_of_calls s written f slots g z a r o checked templated tables as_many small starts k)
