-- Whether every table that stands in a tree has its place below a number.
use Rattle.std.specs.Prelude.{ℕ, Bool, true, ◌&&◌, nat_lt, List, Option, Some, None}
use Rattle.std.specs.List.{list_all}
use Rattle.away_values.specs.declared.operators.ChainOp.{ChainOp}
use Rattle.away_trees.specs.declared.queries.Expr.{Expr}
use Rattle.away_trees.specs.declared.queries.FromItem.{FromItem}
use Rattle.away_trees.specs.declared.queries.Item.{Item}
use Rattle.away_trees.specs.declared.queries.Key.{Key}
use Rattle.away_trees.specs.declared.queries.Query.{Query}
use Rattle.away_trees.specs.declared.queries.Select.{Select}
use Rattle.away_trees.specs.declared.queries.Expr.TheOpen.{
  Expr-F,
  Source-F,
  FromItem-F,
  Item-F,
  Key-F,
  Select-F,
  Recursive-F,
  Query-F,
}
use Rattle.away_trees.specs.declared.queries.Expr.TheOpen as ex
use Rattle.away_trees.specs.Algebra.{
  Algebra,
  expr_of,
  item_of,
  key_of,
  from_of,
  select_of,
  query_of,
}
use Rattle.sql_meaning.specs.Selects.{place_of}

-- a source, by its item's list of columns
abbrev pub AtColumns : Type 0
AtColumns = List (List ℕ) → Bool

abbrev pub all_true : List Bool → Bool
all_true = list_all (λ b. b)

abbrev pub true_or_none : Option Bool → Bool
true_or_none None = true
true_or_none (Some b) = b

abbrev pub expr_step : Expr-F Bool AtColumns Bool Bool Bool Bool Bool Bool → Bool
expr_step (ex.Neg e) = e
expr_step (ex.NegSmall e) = e
expr_step (ex.Not e) = e
expr_step (ex.Is e test negative) = e
expr_step (ex.Chain e links) = e && list_all (λ l. l.1) links
expr_step (ex.Compare op x y) = x && y
expr_step (ex.Between negative x y z) = x && (y && z)
expr_step (ex.OneOf negative e choices) = e && all_true choices
expr_step (ex.Cast e t) = e
expr_step (ex.Cases arms other) = list_all (λ a. a.0 && a.1) arms && true_or_none other
expr_step (ex.Call name es) = all_true es
expr_step (ex.Scalar q) = q
expr_step (ex.Exists q) = q
expr_step _ = true

abbrev pub source_step : ℕ → Source-F Bool AtColumns Bool Bool Bool Bool Bool Bool → AtColumns
source_step n (ex.Table name) columns = nat_lt (place_of columns) n
source_step n (ex.Sub q lateral) columns = q

abbrev pub from_step : FromItem-F Bool AtColumns Bool Bool Bool Bool Bool Bool → Bool
from_step f = f.source f.columns

abbrev pub item_step : Item-F Bool AtColumns Bool Bool Bool Bool Bool Bool → Bool
item_step i = i.expr

abbrev pub key_step : Key-F Bool AtColumns Bool Bool Bool Bool Bool Bool → Bool
key_step k = k.expr

abbrev pub select_step : Select-F Bool AtColumns Bool Bool Bool Bool Bool Bool → Bool
select_step s = all_true s.list && (all_true s.from && (true_or_none s.filter && (all_true s.order && true_or_none s.limit)))

abbrev pub recursive_step : Recursive-F Bool AtColumns Bool Bool Bool Bool Bool Bool → Bool
recursive_step r = all_true r.first && r.second

-- a subquery has no recursive part
abbrev pub query_step : Query-F Bool AtColumns Bool Bool Bool Bool Bool Bool → Bool
query_step q = all_true q.selects

abbrev pub placing : ℕ → Algebra
placing n =
    record {
      AnExpr = Bool;
      ASource = AtColumns;
      AFrom = Bool;
      AnItem = Bool;
      AKey = Bool;
      AQuery = Bool;
      ARecursive = Bool;
      ASelect = Bool;
      no_expr = true;
      no_query = true;
      expr = expr_step;
      source = source_step n;
      from = from_step;
      item = item_step;
      key = key_step;
      query = query_step;
      recursive = recursive_step;
      select = select_step;
    }

-- ---- as words that proofs look into by their equations alone

unfoldable pub expr_within : ℕ → Expr → Bool
expr_within n e = expr_of (placing n) e

unfoldable pub from_within : ℕ → FromItem → Bool
from_within n f = from_of (placing n) f

unfoldable pub select_within : ℕ → Select → Bool
select_within n s = select_of (placing n) s

unfoldable pub query_within : ℕ → Query → Bool
query_within n q = query_of (placing n) q

unfoldable pub all_exprs : ℕ → List Expr → Bool
all_exprs n = list_all (λ e. expr_within n e)

unfoldable pub all_links : ℕ → List (ChainOp × Expr) → Bool
all_links n = list_all (λ l. expr_within n l.1)

unfoldable pub all_arms : ℕ → List (Expr × Expr) → Bool
all_arms n = list_all (λ a. expr_within n a.0 && expr_within n a.1)

unfoldable pub other_within : ℕ → Option Expr → Bool
other_within n None = true
other_within n (Some e) = expr_within n e

-- a condition or LIMIT
unfoldable pub optional_within : ℕ → Option Expr → Bool
optional_within n None = true
optional_within n (Some e) = expr_within n e

unfoldable pub all_items : ℕ → List Item → Bool
all_items n = list_all (λ i. item_of (placing n) i)

unfoldable pub all_keys : ℕ → List Key → Bool
all_keys n = list_all (λ k. key_of (placing n) k)

unfoldable pub all_froms : ℕ → List FromItem → Bool
all_froms n = list_all (λ f. from_within n f)

unfoldable pub all_selects : ℕ → List Select → Bool
all_selects n = list_all (λ s. select_within n s)
