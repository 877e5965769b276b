-- A query at a bound, as words that proofs look into by their equations alone.
use Rattle.std.specs.Prelude.{ℕ, List, map, Option, Some, None, Ok, Err}
use Rattle.away_values.specs.declared.values.Value.{Value}
use Rattle.away_values.specs.declared.values.Table.{Table}
use Rattle.away_trees.specs.declared.queries.Query.{Query}
use Rattle.away_trees.specs.declared.queries.Recursive.{Recursive}
use Rattle.away_values.specs.Results.{Or, and_then, mapped}
use Rattle.sql_meaning.specs.Context.{Rows, outermost}
use Rattle.sql_meaning.specs.Equations.{recursive_part}
use Rattle.sql_meaning.specs.Working.{next_rows, recursive_table, rows, with_table, worked}
use Rattle.sql_meaning.specs.Gives.{query_rows}

-- None where the bound doesn't suffice
abbrev pub turned : {A : Type 0} → Option (Or A) → Or (Option A)
turned None = Ok None
turned (Some (Ok a)) = Ok (Some a)
turned (Some (Err c)) = Err c

unfoldable pub table_of : Recursive → List Rows → List Value → ℕ → Or (Option Rows)
table_of r T args k = turned (recursive_table (recursive_part r) T args k)

unfoldable pub worked_of : Recursive → List Rows → List Value → ℕ → Rows → Rows → Or (Option Rows)
worked_of r T args k done now = turned (worked (next_rows (recursive_part r) T args) k done (Ok now))

unfoldable pub rows_within : Query → List Rows → List Value → ℕ → Or (Option Rows)
rows_within q T args k = turned (rows q T args k)

-- the selects over the recursive table, where there is one
unfoldable pub over_found : Query → List Rows → List Value → Option Rows → Or (Option Rows)
over_found q T args None = Ok None
over_found q T args (Some table) = mapped (λ rows. Some rows) (query_rows (outermost (with_table T table) args) q)

unfoldable pub over_recursive : Query → Recursive → List Rows → List Value → ℕ → Or (Option Rows)
over_recursive q r T args k = and_then (table_of r T args k) (over_found q T args)

-- the rows of tables
abbrev pub rows_of_tables : List Table → List Rows
rows_of_tables = map (λ t. t.rows)
