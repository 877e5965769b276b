-- Tables that fit a schema.
use Rattle.std.specs.Prelude.{◌≡◌, ◌≢◌, true, List}
use Rattle.std.specs.List.{All, AllZip}
use Rattle.away_values.specs.declared.values.Value.{Value}
use Rattle.away_values.specs.declared.values.Value.TheVariants.{Null}
use Rattle.away_trees.specs.declared.schemas.ColumnSchema.{ColumnSchema}
use Rattle.away_trees.specs.declared.schemas.TableSchema.{TableSchema}
use Rattle.away_trees.specs.declared.schemas.Schema.{Schema}
use Rattle.away_values.specs.Values.{HasType}

-- a value of the column's type, and not NULL where the column is NOT NULL
pub record FitsColumn (c : ColumnSchema) (v : Value) : Type 0 where
  pub typed : HasType v c.ty
  pub there : c.not_null ≡ true → v ≢ Null

-- each row has one value for each column
abbrev pub FitsTable : TableSchema → List (List Value) → Type 0
FitsTable t rows = All (λ row. AllZip FitsColumn t.columns row) rows

-- one table for each table of the schema, in order
abbrev pub FitsSchema : Schema → List (List (List Value)) → Type 0
FitsSchema s tables = AllZip FitsTable s.tables tables
