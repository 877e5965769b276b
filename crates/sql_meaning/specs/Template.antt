-- The query of a function that is one RETURN: one label, and one column for each parameter.
--
-- WITH RECURSIVE r(go, fn, c0, .., res, err) AS (
-- SELECT TRUE, 1, CAST($1 AS t), .., NULL, NULL
-- UNION ALL
-- SELECT s.go, .., s.err
-- FROM r, LATERAL (SELECT FALSE, 0, NULL, .., v.v, NULL FROM LATERAL (SELECT TRUE WHERE r.fn = 1)
-- AS k, LATERAL (SELECT e) AS v) AS s
-- WHERE r.go)
-- SELECT r.res, r.err FROM r WHERE NOT r.go
--
-- where every literal has the cast to its type.
use Rattle.std.specs.Prelude.{
  ℕ,
  zero,
  suc,
  true,
  false,
  pos,
  List,
  [],
  ◌∷◌,
  ◌++◌,
  map,
  length,
  Some,
  None,
  decimal,
}
use Rattle.away_values.specs.declared.types.Ty.{Ty}
use Rattle.away_values.specs.declared.types.Ty.TheVariants as ty
use Rattle.away_values.specs.declared.operators.CmpOp.TheVariants as cmp
use Rattle.away_trees.specs.declared.queries.Col.{Col}
use Rattle.away_trees.specs.declared.queries.Expr.{Expr}
use Rattle.away_trees.specs.declared.queries.Expr.TheVariants as expr
use Rattle.away_trees.specs.declared.queries.FromItem.{FromItem}
use Rattle.away_trees.specs.declared.queries.Select.{Select}
use Rattle.away_trees.specs.declared.queries.Query.{Query}
use Rattle.away_trees.specs.declared.queries.Expr.TheViews.{roll-Recursive, roll-Query}
use Rattle.sql_meaning.specs.Trees.{
  col,
  cast_to,
  number,
  truth,
  null_of,
  lateral,
  table_by,
  select,
  one,
}
use Rattle.sql_meaning.specs.Placed.{placed_at}

-- n numbers from `first` on
abbrev pub count_from : ℕ → ℕ → List ℕ
count_from first zero = []
count_from first (suc n) = first ∷ count_from (suc first) n

-- the numbers below n
abbrev pub below : ℕ → List ℕ
below = count_from 0

-- slot i as a column, seen from the item that has the function's expression: two selects out,
-- behind the columns `go` and `fn`
abbrev pub slot_at : ℕ → Col
slot_at i = record { level = 2; item = 0; column = suc (suc i) }

-- LATERAL (SELECT TRUE WHERE c)
abbrev pub gate : Expr → FromItem
gate c = lateral (one (select (truth true ∷ []) [] (Some c)))

-- LATERAL (SELECT e)
abbrev pub let_item : Expr → FromItem
let_item e = lateral (one (select (e ∷ []) [] None))

-- the parameters from number i + 1 on, each with its type
abbrev pub arguments : ℕ → List Ty → List Expr
arguments i [] = []
arguments i (t ∷ ts) = expr.Param (suc i) t ∷ arguments (suc i) ts

-- the first term: TRUE, label 1, the arguments, and no result
abbrev pub start : List Ty → Ty → Select
start params result = select (truth true ∷ number (pos 1) ∷ arguments 0 params ++ (null_of result ∷ null_of ty.Text ∷ [])) [] None

-- the row of the call has this label
abbrev pub is_label : Expr
is_label = expr.Compare cmp.Eq (col 2 0 1) (number (pos 1))

-- the one branch: e is the function's expression as the query has it
abbrev pub branch : List Ty → Expr → Select
branch params e =
    select (truth false ∷ number (pos 0) ∷ map null_of params ++ (col 0 1 0 ∷ null_of ty.Text ∷ [])) (gate is_label ∷ let_item e ∷ []) None

-- the second term, where the recursive table has the place with these digits
abbrev pub step : List ℕ → List Ty → Expr → Select
step digits params e =
    select (map (col 0 1) (below (suc (suc (suc (suc (length params))))))) (table_by digits ∷ lateral (one (branch params e)) ∷ []) (Some (col 0 0 0))

-- the result and the fault of the row that is done
abbrev pub last : List ℕ → ℕ → Select
last digits n = select (col 0 0 (suc (suc n)) ∷ col 0 0 (suc (suc (suc n))) ∷ []) (table_by digits ∷ []) (Some (expr.Not (col 0 0 0)))

abbrev pub query_with : List ℕ → List Ty → Ty → Expr → Query
query_with digits params result e =
    roll-Query (record {
      recursive = Some (roll-Recursive (record { name = []; columns = []; first = start params result ∷ []; second = step digits params e }));
      selects = last digits (length params) ∷ [];
    })

-- over so many tables
abbrev pub query_of_return : ℕ → List Ty → Ty → Expr → Query
query_of_return tables params result e = query_with (decimal tables) params result (placed_at result slot_at e)
