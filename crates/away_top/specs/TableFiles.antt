-- The files of a schema's tables: where they stand, and by which rules they are refused.
use Rattle.std.specs.Prelude.{◌≡◌, ℕ, List, [], ◌∷◌, ◌++◌, Ok, Err, codes}
use Rattle.std.specs.Fmt.{decimal}
use Rattle.away_trees.specs.declared.schemas.TableSchema.{TableSchema}
use Rattle.csv_tables.specs.Files.{Or, rows_in}
use Rattle.csv_tables.specs.declared.refusal.TableRefusal.{TableRefusal}
use Rattle.csv_tables.specs.declared.refusal.TableRefusal.TheVariants.{
  Header,
  Count,
  Cell,
  NullCell,
  NoMemory,
}
use Rattle.sql_meaning.specs.Context.{Rows}
use Rattle.away_top.specs.Course.{Course, and_then, ends, gives, reads, RefusedBy}

-- the table t stands in DIR/t.csv
abbrev pub table_file : List ℕ → List ℕ → List ℕ
table_file dir name = dir ++ (codes "/" ++ (name ++ codes ".csv"))

-- a number of a rule, behind a space
abbrev pub counted : ℕ → List ℕ
counted n = codes " " ++ decimal n

-- The rule that a refusal is printed as, with its row and its column. Want of memory is no refusal
-- of the file.
abbrev pub IsTableRule : TableRefusal → List ℕ → Type 0
IsTableRule Header rule = rule ≡ codes "Z1"
IsTableRule (Count row) rule = rule ≡ codes "Z2" ++ counted row
IsTableRule (Cell row column) rule = rule ≡ codes "Z3" ++ (counted row ++ counted column)
IsTableRule (NullCell row column) rule = rule ≡ codes "Z4" ++ (counted row ++ counted column)
IsTableRule NoMemory rule = ⊥

-- a file holds these rows, or is refused
abbrev pub holding : List ℕ → Or Rows → Course Rows
holding file (Ok rows) = gives rows
holding file (Err refusal) = ends (RefusedBy file (IsTableRule refusal))

-- the file of a table is read, and holds its rows or is refused
abbrev pub table_course : List ℕ → TableSchema → Course Rows
table_course dir t = reads (table_file dir t.name) 67108864 (λ bytes. holding (table_file dir t.name) (rows_in t bytes))

-- the tables that are left are read in their order, behind those that were
abbrev pub tables_behind : List ℕ → List Rows → List TableSchema → Course (List Rows)
tables_behind dir done [] = gives done
tables_behind dir done (t ∷ left) = and_then (table_course dir t) (λ rows. tables_behind dir (done ++ rows ∷ []) left)

-- all tables of a schema are read, in its order
abbrev pub tables_course : List ℕ → List TableSchema → Course (List Rows)
tables_course dir tables = tables_behind dir [] tables
