-- The names of the query's tables and columns.
use Rattle.std.specs.Prelude.{ℕ, List, [], ◌∷◌, ◌++◌, map, codes, decimal}
use Rattle.sql_meaning.specs.Template.{below}

-- the working table
abbrev pub table_name : List ℕ
table_name = codes "away_r"

-- the rows of the labels
abbrev pub step_name : List ℕ
step_name = codes "away_s"

-- the one column of a gate or a value
abbrev pub only_name : List ℕ
only_name = codes "away_v"

-- whether the call goes on
abbrev pub go_name : List ℕ
go_name = codes "away_go"

-- the label where the call is
abbrev pub label_name : List ℕ
label_name = codes "away_fn"

abbrev pub result_name : List ℕ
result_name = codes "away_res"

abbrev pub fault_name : List ℕ
fault_name = codes "away_err"

-- an item of a branch, by its number from 1
abbrev pub alias_name : ℕ → List ℕ
alias_name k = codes "away_k" ++ decimal k

-- a column, by its place from 0
abbrev pub column_name : ℕ → List ℕ
column_name i = codes "away_c" ++ decimal i

abbrev pub value_names : ℕ → List (List ℕ)
value_names n = map column_name (below n)

-- a column that is carried from row to row, by its place from 0
abbrev pub carried_name : ℕ → List ℕ
carried_name i = codes "away_x" ++ decimal i

abbrev pub carried_names : ℕ → List (List ℕ)
carried_names n = map carried_name (below n)

-- the names of a row's columns, of which so many are carried, and then so many hold values
abbrev pub names_carrying : ℕ → ℕ → List (List ℕ)
names_carrying carried n =
    go_name
    ∷ label_name
    ∷ (carried_names carried ++ (value_names n ++ (result_name ∷ fault_name ∷ [])))

-- the names of a row's columns, of which so many hold values
abbrev pub row_names : ℕ → List (List ℕ)
row_names = names_carrying 0
