-- Small trees, written out, whose meanings the checker computes.
use Rattle.std.specs.Prelude.{
  ℕ,
  Bool,
  false,
  ℤ,
  pos,
  negsuc,
  List,
  [],
  ◌∷◌,
  map,
  Option,
  Some,
  None,
  codes,
  Err,
}
use Rattle.away_values.specs.declared.types.Ty.TheVariants as ty
use Rattle.away_values.specs.declared.values.Value.{Value}
use Rattle.away_values.specs.declared.values.Value.TheVariants as val
use Rattle.away_values.specs.declared.operators.IntOp.TheVariants as op
use Rattle.away_values.specs.declared.operators.CmpOp.TheVariants as cmp
use Rattle.away_values.specs.declared.operators.ChainOp.{ChainOp}
use Rattle.away_values.specs.declared.operators.ChainOp.TheVariants as chain
use Rattle.away_trees.specs.declared.queries.Expr.{Expr}
use Rattle.away_trees.specs.declared.queries.Expr.TheVariants as expr
use Rattle.away_trees.specs.declared.queries.FromItem.{FromItem}
use Rattle.away_trees.specs.declared.queries.Query.{Query}
use Rattle.away_trees.specs.declared.queries.Expr.TheViews.{
  roll-Key,
  roll-Select,
  roll-Recursive,
  roll-Query,
}
use Rattle.away_values.specs.Results.{Or, class}
use Rattle.sql_meaning.specs.Context.{Rows, outermost}
use Rattle.sql_meaning.specs.Meaning.{value, rows_of_query}
use Rattle.sql_meaning.specs.Trees.{col, null_of, item, subquery, lateral, table_by, select, one}
use Rattle.sql_meaning.specs.Placed.{placed_at}
use Rattle.sql_meaning.specs.Template.{slot_at, query_with}

-- ---- words for them

abbrev pub int : ℕ → Value
int n = val.Int (pos n)

abbrev pub text : List ℕ → Value
text t = val.Text t

abbrev pub n : ℕ → Expr
n k = expr.Int (pos k)

abbrev pub chain_of : Expr → ChainOp → Expr → Expr
chain_of a op b = expr.Chain a ((op, b) ∷ [])

-- 1 / 0, which raises 22012
abbrev pub by_zero : Expr
by_zero = chain_of (n 1) (chain.Int op.Div) (n 0)

-- 1 / 0 = 1
abbrev pub faulty : Expr
faulty = expr.Compare cmp.Eq by_zero (n 1)

-- substr('a', 1, -1), which raises 22011
abbrev pub negative_length : Expr
negative_length = expr.Call (codes "substr") (expr.Str (codes "a") ∷ n 1 ∷ expr.Int (negsuc 0) ∷ [])

-- a call of a function of one argument
abbrev pub call : List ℕ → Expr → Expr
call name e = expr.Call name (e ∷ [])

-- the value of an expression that stands outside every select
abbrev pub alone : Expr → Or Value
alone e = value e (outermost [] [])

-- the rows of a query over tables
abbrev pub over : Query → List Rows → Or Rows
over q tables = rows_of_query q (outermost tables [])

abbrev pub fails : {A : Type 0} → List ℕ → Or A
fails code = Err (class code)

-- the only table of the schema
abbrev pub t : FromItem
t = table_by (48 ∷ [])

-- a query of one select with everything, over that table
abbrev pub whole : List Expr → Option Expr → List (Expr × Bool) → Option Expr → Query
whole list filter keys limit =
    one (roll-Select (record {
      list = map item list;
      from = t ∷ [];
      filter = filter;
      order = map (λ k. roll-Key (record { expr = k.0; descending = k.1 })) keys;
      limit = limit;
    }))

-- ---- tables

-- a number and a text, with equal numbers
abbrev pub three : Rows
three = (int 1 ∷ text (codes "one") ∷ []) ∷ (int 2 ∷ text (codes "two") ∷ []) ∷ (int 2 ∷ text (codes "zwei") ∷ []) ∷ []

-- a number, NULL among them, and a text
abbrev pub with_null : Rows
with_null = (int 5 ∷ text (codes "b") ∷ []) ∷ (val.Null ∷ text (codes "c") ∷ []) ∷ (int 2 ∷ text (codes "a") ∷ []) ∷ []

-- a number
abbrev pub numbers : List ℤ → Rows
numbers = map (λ k. val.Int k ∷ [])

-- ---- queries

-- the template of RETURN a + b * 2, for a function of two bigint parameters, over no table
abbrev pub first_path : Query
first_path =
    query_with (48 ∷ []) (ty.Bigint ∷ ty.Bigint
    ∷ []) ty.Bigint (placed_at ty.Bigint slot_at (chain_of (expr.Slot 0) (chain.Int op.Add) (chain_of (expr.Slot 1) (chain.Int op.Mul) (n 2))))

-- WITH RECURSIVE t(i) AS (SELECT first UNION ALL SELECT next FROM t WHERE t.i < 5) SELECT
-- CAST(sum(t.i) AS bigint), CAST(NULL AS text) FROM t
abbrev pub recursive : Expr → Expr → Query
recursive first next =
    roll-Query (record {
      recursive = Some (roll-Recursive (record {
        name = [];
        columns = [];
        first = select (first ∷ []) [] None
            ∷ [];
        second = select (next ∷ []) (t ∷ []) (Some (expr.Compare cmp.Lt (col 0 0 0) (n 5)));
      }));
      selects = select (expr.Cast (call (codes "sum") (col 0 0 0)) ty.Bigint ∷ null_of ty.Text ∷ []) (t ∷ []) None ∷ [];
    })

-- the numbers from 1 to 5
abbrev pub to_five : Query
to_five = recursive (n 1) (chain_of (col 0 0 0) (chain.Int op.Add) (n 1))

-- the same, where the second term faults over its first working table
abbrev pub to_a_fault : Query
to_a_fault = recursive (n 1) (chain_of (col 0 0 0) (chain.Int op.Div) (n 0))

-- SELECT t.k, CAST(NULL AS text) FROM t WHERE filter
abbrev pub keys_where : Option Expr → Query
keys_where filter = whole (col 0 0 0 ∷ null_of ty.Text ∷ []) filter [] None

-- SELECT t.v FROM t, and so on
abbrev pub texts : Option Expr → List (Expr × Bool) → Option Expr → Query
texts = whole (col 0 0 1 ∷ [])

-- (SELECT t.v FROM t WHERE filter)
abbrev pub scalar : Option Expr → Expr
scalar filter = expr.Scalar (texts filter [] None)

-- SELECT count(*) FROM (SELECT 1 WHERE some) AS a, LATERAL (SELECT 1 / 0) AS b
abbrev pub beside : Bool → Query
beside some =
    one (select (expr.CountRows ∷ []) (subquery false (one (select (n 1 ∷ []) [] (Some (expr.Bool some))))
    ∷ lateral (one (select (by_zero ∷ []) [] None)) ∷ []) None)

-- EXISTS (SELECT 1 / 0 FROM t WHERE filter)
abbrev pub exists : Option Expr → Expr
exists filter = expr.Exists (whole (by_zero ∷ []) filter [] None)

-- SELECT CAST(sum(t.k) AS bigint) FROM t
abbrev pub summed : Query
summed = whole (expr.Cast (call (codes "sum") (col 0 0 0)) ty.Bigint ∷ []) None [] None

-- SELECT count(*), count(t.k), min(t.k), max(t.k), CAST(sum(t.k) AS bigint), bool_and(t.k > 2),
-- bool_or(t.k > 2) FROM t
abbrev pub aggregated : Query
aggregated =
    let big : Expr = expr.Compare cmp.Gt (col 0 0 0) (n 2) in
    whole (expr.CountRows ∷ call (codes "count") (col 0 0 0) ∷ call (codes "min") (col 0 0 0) ∷ call (codes "max")
    (col 0 0 0) ∷ expr.Cast (call (codes "sum") (col 0 0 0)) ty.Bigint ∷ call (codes "bool_and") big ∷ call (codes "bool_or") big ∷ []) None [] None
