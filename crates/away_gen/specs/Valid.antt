-- What a case is that runs: its texts read and break no rule, its table fits, and its arguments
-- have the types of the parameters.
use Rattle.std.specs.Prelude.{◌≡◌, ℕ, List, [], ◌∷◌, Ok, map}
use Rattle.std.specs.List.{AllZip}
use Rattle.away_values.specs.Values.{HasType}
use Rattle.away_values.specs.declared.types.Ty.{Ty}
use Rattle.away_values.specs.declared.types.Ty.TheVariants.{Bigint}
use Rattle.away_values.specs.declared.values.Value.{Value}
use Rattle.away_trees.specs.declared.schemas.Schema.{Schema}
use Rattle.away_trees.specs.declared.schemas.TableSchema.{TableSchema}
use Rattle.away_trees.specs.declared.statements.Function.{Function}
use Rattle.away_trees.specs.Fits.{FitsTable}
use Rattle.away_trees.specs.Limits.{KeepsLimits}
use Rattle.away_grammar.specs.FunctionGrammar.{ReadsFunction}
use Rattle.away_grammar.specs.Texts.{ReadsSchema}
use Rattle.sql_text.specs.Refusals as texts
use Rattle.plsql_parse.specs.Refusals as functions
use Rattle.away_names.specs.Schemas.{schema_note}
use Rattle.away_types.specs.FunctionChecks.{function_note}
use Rattle.away_types.specs.Refusals.{HasNoFinding, IsUnbroken}
use Rattle.csv_tables.specs.Files.{rows_in}
use Rattle.away_gen.specs.declared.case.DemoCase.{DemoCase}

-- The bytes read as this schema, which breaks no rule.
pub record IsSchemaText (bytes : List ℕ) (schema : Schema) : Type 0 where
  pub may_be_read : texts.MayBeRead bytes
  pub reads : ReadsSchema bytes schema
  pub unbroken : IsUnbroken (schema_note schema)

-- The bytes read as this function, which keeps the limits and breaks no rule over the tables of the
-- schema.
pub record IsFunctionText (schema : Schema) (bytes : List ℕ) (function : Function) : Type 0 where
  pub may_be_read : functions.MayBeRead bytes
  pub reads : ReadsFunction bytes function
  pub within_limits : KeepsLimits function
  pub unbroken : HasNoFinding (function_note schema function)

-- The bytes are the file of the schema's one table, and hold these rows, which fit it.
pub record IsTableFile (schema : Schema) (bytes : List ℕ) (rows : List (List Value)) : Type 0 where
  pub table : TableSchema
  pub only : schema.tables ≡ table ∷ []
  pub holds : rows_in table bytes ≡ Ok rows
  pub fits : FitsTable table rows

-- A value for each type, of that type.
abbrev pub HaveTypes : List Ty → List Value → Type 0
HaveTypes types values = AllZip (λ t v. HasType v t) types values

abbrev pub two_bigints : List Ty
two_bigints = Bigint ∷ Bigint ∷ []

abbrev pub types_of : List (List ℕ × Ty) → List Ty
types_of params = map (λ (p : List ℕ × Ty). p.1) params

pub record IsValid (case : DemoCase) : Type 0 where
  pub schema : Schema
  pub schema_reads : IsSchemaText case.schema.items schema
  pub function : Function
  pub function_reads : IsFunctionText schema case.function.items function
  pub rows : List (List Value)
  pub table_holds : IsTableFile schema case.table.items rows
  pub arguments : HaveTypes (types_of function.params) case.args
