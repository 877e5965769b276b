-- What is told of the case of a number.
use Rattle.std.specs.Prelude.{◌≡◌, ℕ, ◌+◌, ◌*◌, List, [], ◌∷◌, length}
use Rattle.away_values.specs.declared.values.Value.{Value}
use Rattle.away_trees.specs.Count.{nodes, weight}
use Rattle.away_trees.specs.declared.queries.Query.{Query}
use Rattle.away_trees.specs.declared.schemas.Schema.{Schema}
use Rattle.away_trees.specs.declared.statements.Function.{Function}
use Rattle.away_types.specs.CheckedFunctions.{IsChecked}
use Rattle.away_types.specs.CheckedQueries.{resolved_query}
use Rattle.away_types.specs.declared.slots.Slot.{Slot}
use Rattle.away_gen.specs.Texts.{IsCase}
use Rattle.away_gen.specs.Valid.{IsFunctionText, IsSchemaText, IsTableFile}
use Rattle.away_gen.specs.declared.case.DemoCase.{DemoCase}
use Rattle.plsql_meaning.specs.Equivalent.{answers}
use Rattle.away_types.specs.TypedSlots.{typed_slots}
use Rattle.sql_eval.specs.Lengths.{IsLength}
use Rattle.sql_meaning.specs.AtBound.{rows_of_tables}
use Rattle.sql_meaning.specs.Context.{Rows}
use Rattle.sql_meaning.specs.Working.{sql}
use Rattle.demonstration.specs.CompiledQuery.{IsCompiledText}
use Rattle.demonstration.specs.declared.summary.Runs.{Runs}
use Rattle.demonstration.specs.declared.summary.Summary.{Summary}
use Rattle.demonstration.specs.declared.trial.Trial.{Trial}

-- the most turns of the function's loops
abbrev pub turns : ℕ
turns = 1000000

-- the most iterations of the query of a function of this weight: as many as an answer within the
-- turns needs
abbrev pub iterations_for : ℕ → ℕ
iterations_for heaviness = (turns + 1) * heaviness + 1

-- what the function answers within its turns, what the query answers within so many iterations, and
-- the least bound at which it does
pub record AreRuns (f : Function) (slots : List Slot) (q : Query) (tables : List Rows) (args : List Value) (most : ℕ) (runs : Runs) : Type 0 where
  pub function_is : runs.function ≡ answers f (typed_slots slots) tables args turns
  pub query_is : runs.query ≡ sql q tables args most
  pub iterations_are : IsLength q tables args most runs.iterations

-- the number is told, with a text that the function of the trial is compiled to, and with what that
-- function and the text's query answer
pub record IsOver (number : ℕ) (text : List ℕ) (trial : Trial) (args : List Value) (summary : Summary) : Type 0 where
  pub query : Query
  pub compiled : IsCompiledText trial.schema.schema trial.counted.function.function trial.counted.function.slots query text
  pub number_is : summary.number ≡ number
  pub nodes_are : summary.nodes ≡ trial.counted.nodes
  pub bytes_are : summary.bytes ≡ length text
  pub runs : AreRuns trial.counted.function.function trial.counted.function.slots (resolved_query trial.schema.schema query)
      (rows_of_tables trial.tables.list) args (iterations_for (16 * (trial.counted.nodes + 1))) summary.runs

-- The case of the number is told, with a text that its function is compiled to: the texts of the
-- case read as a schema and as a function, which break no rule, and its file holds the rows of the
-- schema's table. The summary has the nodes of the function, the length of the text, and what the
-- checked function and the query that the text reads as answer over those rows and the arguments of
-- the case.
pub record IsSummary (number : ℕ) (text : List ℕ) (summary : Summary) : Type 0 where
  pub case : DemoCase
  pub case_is : IsCase number case
  pub schema : Schema
  pub schema_reads : IsSchemaText case.schema.items schema
  pub written : Function
  pub function_reads : IsFunctionText schema case.function.items written
  pub rows : Rows
  pub table_holds : IsTableFile schema case.table.items rows
  pub function : Function
  pub slots : List Slot
  pub checked : IsChecked schema written function slots
  pub query : Query
  pub compiled : IsCompiledText schema function slots query text
  pub number_is : summary.number ≡ number
  pub nodes_are : summary.nodes ≡ nodes written
  pub bytes_are : summary.bytes ≡ length text
  pub runs : AreRuns function slots (resolved_query schema query) (rows ∷ []) case.args (iterations_for (weight written)) summary.runs
