-- What a table's file is: its records, the names of the columns first, and a value for each field
-- of the others. The first row that is no row of the table decides, and in it the first field.
use Rattle.std.specs.Prelude.{
  ◌≡◌,
  ◌≢◌,
  ℕ,
  ◌+◌,
  Bool,
  true,
  false,
  ◌&&◌,
  ◌==◌,
  if◌then◌else◌,
  List,
  [],
  ◌∷◌,
  length,
  Result,
  Ok,
  Err,
  bytes_eq,
}
use Rattle.std.specs.Option.{ok_or}
use Rattle.csv.specs.Reading.{default_config, records, strip_bom}
use Rattle.away_values.specs.declared.values.Value.{Value}
use Rattle.away_trees.specs.declared.schemas.ColumnSchema.{ColumnSchema}
use Rattle.away_trees.specs.declared.schemas.TableSchema.{TableSchema}
use Rattle.csv_tables.specs.declared.refusal.TableRefusal.{TableRefusal}
use Rattle.csv_tables.specs.declared.refusal.TableRefusal.TheVariants as refusal
use Rattle.csv_tables.specs.Cells.{is_null_mark, value_of}

-- ---- records

abbrev pub Fields : Type 0
Fields = List (List ℕ)

-- the records of a file as `csv` reads them: fields between commas, in quotes or not, with nothing
-- trimmed, after a byte order mark
abbrev pub records_of : List ℕ → List Fields
records_of bytes = records default_config (strip_bom bytes)

-- ---- a value or a refusal

abbrev pub Or : Type 0 → Type 0
Or A = Result A TableRefusal

abbrev pub and_then : {A B : Type 0} → Or A → (A → Or B) → Or B
and_then (Ok a) go = go a
and_then (Err e) go = Err e

abbrev pub mapped : {A B : Type 0} → (A → B) → Or A → Or B
mapped f (Ok a) = Ok (f a)
mapped f (Err e) = Err e

-- a refusal is the one that is meant, where want of memory is the one free answer
pub record Refuses {A : Type 0} (meant : Or A) (e : TableRefusal) : Type 0 where
  pub meant_is : e ≢ refusal.NoMemory → meant ≡ Err e

-- ---- rows; rows and columns count from 1

-- a field under its column: NULL only where the column takes it, and a spelling of the column's
-- type
unfoldable pub cell_of : ℕ → ℕ → ColumnSchema → List ℕ → Or Value
cell_of row column c field =
    if c.not_null && is_null_mark field then Err (refusal.NullCell row column) else ok_or (value_of c.ty field) (refusal.Cell row column)

-- the values of fields from a column on
unfoldable pub cells_of : ℕ → ℕ → List ColumnSchema → Fields → Or (List Value)
cells_of row column (c ∷ cs) (field ∷ fields) =
    and_then (cell_of row column c field) (λ v. mapped (λ vs. v ∷ vs) (cells_of row (column + 1) cs fields))
cells_of row column _ _ = Ok []

-- as many fields as columns, and the value of each
unfoldable pub row_of : ℕ → List ColumnSchema → Fields → Or (List Value)
row_of row columns fields = if length fields == length columns then cells_of row 1 columns fields else Err (refusal.Count row)

-- the rows of records, from a row on
unfoldable pub rows_of : ℕ → List ColumnSchema → List Fields → Or (List (List Value))
rows_of row columns [] = Ok []
rows_of row columns (fields ∷ more) = and_then (row_of row columns fields) (λ r. mapped (λ rs. r ∷ rs) (rows_of (row + 1) columns more))

-- ---- the file

-- the names of the columns, in their order
abbrev pub is_header : List ColumnSchema → Fields → Bool
is_header [] [] = true
is_header (c ∷ cs) (field ∷ fields) = bytes_eq field c.name && is_header cs fields
is_header _ _ = false

-- the rows below the header
abbrev pub below_header : List ColumnSchema → List Fields → Or (List (List Value))
below_header columns [] = Err refusal.Header
below_header columns (first ∷ more) = if is_header columns first then rows_of 1 columns more else Err refusal.Header

-- the rows that a file holds for a table, or why it holds none
unfoldable pub rows_in : TableSchema → List ℕ → Or (List (List Value))
rows_in t bytes = below_header t.columns (records_of bytes)
