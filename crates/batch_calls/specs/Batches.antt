-- What a batch is: one query for the calls that the rows of a table are.
use Rattle.std.specs.Prelude.{ℕ, List, [], map, slice_index_or}
use Rattle.away_grammar.specs.Texts.{ReadsQuery}
use Rattle.away_trees.specs.Count.{weight}
use Rattle.away_trees.specs.Fits.{FitsSchema}
use Rattle.away_trees.specs.declared.queries.Query.{Query}
use Rattle.away_trees.specs.declared.schemas.Schema.{Schema}
use Rattle.away_trees.specs.declared.statements.Function.{Function}
use Rattle.away_types.specs.CheckedRows.{rows_note}
use Rattle.away_types.specs.Refusals.{IsUnbroken}
use Rattle.away_types.specs.TypedSlots.{typed_slots}
use Rattle.away_types.specs.declared.slots.Slot.{Slot}
use Rattle.batch_law.specs.Batches.{start_of}
use Rattle.batch_calls.specs.CallTables.{IsCallTable}
use Rattle.batch_law.specs.FunctionAnswers as calls
use Rattle.plsql_meaning.specs.Equivalent.{answers}
use Rattle.sql_meaning.specs.Context.{Rows}
use Rattle.sql_text.specs.Refusals.{MayBeRead}

-- The text reads as the written query, which breaks no rule but perhaps the one on answers, under
-- the schema. The rows of the table at this place are calls of the function.
pub record IsBatch (s : Schema) (f : Function) (place : ℕ) (written : Query) (text : List ℕ) : Type 0 where
  pub table : IsCallTable s place f
  pub may_be_read : MayBeRead text
  pub reads : ReadsQuery text written
  pub unbroken : IsUnbroken (rows_note s written)

-- Over all tables that fit the schema the query answers as the function with these slots does at
-- each row of the table at this place: the first column tells the calls apart, the others are the
-- arguments.
pub record AnswersAsCalls (s : Schema) (f : Function) (slots : List Slot) (place : ℕ) (q : Query) : Type 0 where
  pub each : (tables : List Rows) → FitsSchema s tables
      → calls.AnswersAsCalls q tables (map start_of (slice_index_or tables place [])) (weight f)
      (answers f (typed_slots slots) tables)
