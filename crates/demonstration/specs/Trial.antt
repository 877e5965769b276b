-- What the texts of a case read as.
use Rattle.std.specs.Prelude.{◌≡◌, List, [], ◌∷◌}
use Rattle.away_values.specs.declared.values.Value.{Value}
use Rattle.away_trees.specs.Count.{nodes}
use Rattle.away_trees.specs.declared.schemas.Schema.{Schema}
use Rattle.away_trees.specs.declared.statements.Function.{Function}
use Rattle.away_types.specs.CheckedFunctions.{IsChecked}
use Rattle.away_gen.specs.Valid.{IsFunctionText, IsSchemaText, IsTableFile}
use Rattle.away_gen.specs.declared.case.DemoCase.{DemoCase}
use Rattle.sql_meaning.specs.AtBound.{rows_of_tables}
use Rattle.demonstration.specs.declared.trial.Counted.{Counted}
use Rattle.demonstration.specs.declared.trial.Trial.{Trial}

-- the function is the written one, checked, with the nodes of the written one
pub record IsCounted (schema : Schema) (written : Function) (c : Counted) : Type 0 where
  pub checked : IsChecked schema written c.function.function c.function.slots
  pub nodes_are : c.nodes ≡ nodes written

-- the schema and the function are those that the case's texts read as, which break no rule, and the
-- rows are those of its file
pub record IsTrial (case : DemoCase) (trial : Trial) : Type 0 where
  pub schema_reads : IsSchemaText case.schema.items trial.schema.schema
  pub written : Function
  pub function_reads : IsFunctionText trial.schema.schema case.function.items written
  pub counted : IsCounted trial.schema.schema written trial.counted
  pub rows : List (List Value)
  pub table_holds : IsTableFile trial.schema.schema case.table.items rows
  pub tables_are : rows_of_tables trial.tables.list ≡ rows ∷ []
