-- That the first row that is no row of the table decides, and in it the first field.
use Rattle.std.specs.Prelude.{◌≡◌, ℕ, ◌+◌, List, ◌∷◌, ◌++◌, length, Ok, Err}
use Rattle.away_values.specs.declared.values.Value.{Value}
use Rattle.away_trees.specs.declared.schemas.ColumnSchema.{ColumnSchema}
use Rattle.csv_tables.specs.declared.refusal.TableRefusal.{TableRefusal}
use Rattle.csv_tables.specs.Files.{Fields, cell_of, cells_of, row_of, rows_of}

-- Whatever stands behind it, the refusal of the first row that is none is the refusal of all, and
-- likewise of the first field.
pub record FirstDecides : Type 0 where
  pub row : (columns : List ColumnSchema) (before after : List Fields) (fields : Fields) (rows : List (List Value)) (e : TableRefusal)
      → rows_of 1 columns before ≡ Ok rows → row_of (1 + length before) columns fields ≡ Err e
      → rows_of 1 columns (before ++ (fields ∷ after)) ≡ Err e
  pub field : (row : ℕ) (columns more : List ColumnSchema) (c : ColumnSchema)
      (before after : Fields) (f : List ℕ) (values : List Value) (e : TableRefusal)
      → length before ≡ length columns → cells_of row 1 columns before ≡ Ok values → cell_of row (1 + length before) c f ≡ Err e
      → cells_of row 1 (columns ++ (c ∷ more)) (before ++ (f ∷ after)) ≡ Err e
