-- An expression with others in place of its slots and literals, and so a function's expression as a
-- query has it.
use Rattle.std.specs.Prelude.{ℕ, suc, ◌+◌, [], map, None, option_map}
use Rattle.away_values.specs.declared.types.Ty.{Ty}
use Rattle.away_values.specs.declared.types.Ty.TheVariants as ty
use Rattle.away_values.specs.Operators.{literal_type}
use Rattle.away_trees.specs.declared.queries.Col.{Col}
use Rattle.away_trees.specs.declared.queries.Expr.{Expr}
use Rattle.away_trees.specs.declared.queries.Expr.TheVariants as expr
use Rattle.away_trees.specs.declared.queries.Source.{Source}
use Rattle.away_trees.specs.declared.queries.Source.TheVariants as source
use Rattle.away_trees.specs.declared.queries.FromItem.{FromItem}
use Rattle.away_trees.specs.declared.queries.Item.{Item}
use Rattle.away_trees.specs.declared.queries.Key.{Key}
use Rattle.away_trees.specs.declared.queries.Select.{Select}
use Rattle.away_trees.specs.declared.queries.Recursive.{Recursive}
use Rattle.away_trees.specs.declared.queries.Query.{Query}
use Rattle.away_trees.specs.declared.queries.Expr.TheOpen.{
  Expr-F,
  Source-F,
  FromItem-F,
  Item-F,
  Key-F,
  Select-F,
  Recursive-F,
  Query-F,
}
use Rattle.away_trees.specs.declared.queries.Expr.TheOpen as ex
use Rattle.away_trees.specs.declared.queries.Expr.TheViews.{
  roll-Item,
  roll-FromItem,
  roll-Key,
  roll-Select,
  roll-Recursive,
  roll-Query,
}
use Rattle.away_trees.specs.Algebra.{Algebra, expr_of}

-- a tree by the number of the expression's own selects that enclose the place
abbrev pub Deep : Type 0 → Type 0
Deep A = ℕ → A

-- the same of a node with such parts
abbrev pub Layer : (Type 0 → Type 0 → Type 0 → Type 0 → Type 0 → Type 0 → Type 0 → Type 0 → Type 0) → Type 0
Layer F = F (Deep Expr) (Deep Source) (Deep FromItem) (Deep Item) (Deep Key) (Deep Query) (Deep Recursive) (Deep Select)

-- `leaf d i` stands for slot i at depth d, and `literal` goes round each literal
module _ (leaf : ℕ → ℕ → Expr) (literal : Ty → Expr → Expr) where
  abbrev pub expr_in_place : Layer Expr-F → ℕ → Expr
  expr_in_place (ex.Int n) d = literal (literal_type n) (expr.Int n)
  expr_in_place (ex.Str t) d = literal ty.Text (expr.Str t)
  expr_in_place (ex.Bool v) d = literal ty.Boolean (expr.Bool v)
  expr_in_place ex.Null d = expr.Null
  expr_in_place (ex.Named name) d = expr.Named name
  expr_in_place (ex.Dotted alias name) d = expr.Dotted alias name
  expr_in_place (ex.Slot i) d = leaf d i
  expr_in_place (ex.Column c) d = expr.Column c
  expr_in_place (ex.Param i t) d = expr.Param i t
  expr_in_place (ex.Neg e) d = expr.Neg (e d)
  expr_in_place (ex.NegSmall e) d = expr.NegSmall (e d)
  expr_in_place (ex.Not e) d = expr.Not (e d)
  expr_in_place (ex.Is e test negative) d = expr.Is (e d) test negative
  expr_in_place (ex.Chain e links) d = expr.Chain (e d) (map (λ l. (l.0, l.1 d)) links)
  expr_in_place (ex.Compare op x y) d = expr.Compare op (x d) (y d)
  expr_in_place (ex.Between negative x y z) d = expr.Between negative (x d) (y d) (z d)
  expr_in_place (ex.OneOf negative e choices) d = expr.OneOf negative (e d) (map (λ c. c d) choices)
  expr_in_place (ex.Cast e t) d = expr.Cast (e d) t
  expr_in_place (ex.Cases arms other) d = expr.Cases (map (λ a. (a.0 d, a.1 d)) arms) (option_map (λ e. e d) other)
  expr_in_place (ex.Call name es) d = expr.Call name (map (λ e. e d) es)
  expr_in_place ex.CountRows d = expr.CountRows
  expr_in_place (ex.Scalar q) d = expr.Scalar (q d)
  expr_in_place (ex.Exists q) d = expr.Exists (q d)

  abbrev pub source_in_place : Layer Source-F → ℕ → Source
  source_in_place (ex.Table name) d = source.Table name
  source_in_place (ex.Sub q lateral) d = source.Sub (q d) lateral

  abbrev pub from_in_place : Layer FromItem-F → ℕ → FromItem
  from_in_place f d = roll-FromItem (record { source = f.source d; alias = f.alias; columns = f.columns })

  abbrev pub item_in_place : Layer Item-F → ℕ → Item
  item_in_place i d = roll-Item (record { expr = i.expr d; alias = i.alias })

  abbrev pub key_in_place : Layer Key-F → ℕ → Key
  key_in_place k d = roll-Key (record { expr = k.expr d; descending = k.descending })

  -- its parts stand one select further in
  abbrev pub select_in_place : Layer Select-F → ℕ → Select
  select_in_place s d =
      roll-Select (record {
        list = map (λ x. x (suc d)) s.list;
        from = map (λ x. x (suc d)) s.from;
        filter = option_map (λ x. x (suc d)) s.filter;
        order = map (λ x. x (suc d)) s.order;
        limit = option_map (λ x. x (suc d)) s.limit;
      })

  abbrev pub recursive_in_place : Layer Recursive-F → ℕ → Recursive
  recursive_in_place r d = roll-Recursive (record { name = r.name; columns = r.columns; first = map (λ s. s d) r.first; second = r.second d })

  abbrev pub query_in_place : Layer Query-F → ℕ → Query
  query_in_place q d = roll-Query (record { recursive = option_map (λ r. r d) q.recursive; selects = map (λ s. s d) q.selects })

  abbrev pub replacing : Algebra
  replacing =
      record {
        AnExpr = Deep Expr;
        ASource = Deep Source;
        AFrom = Deep FromItem;
        AnItem = Deep Item;
        AKey = Deep Key;
        AQuery = Deep Query;
        ARecursive = Deep Recursive;
        ASelect = Deep Select;
        no_expr = λ d. expr.Null;
        no_query = λ d. roll-Query (record { recursive = None; selects = [] });
        expr = expr_in_place;
        source = source_in_place;
        from = from_in_place;
        item = item_in_place;
        key = key_in_place;
        query = query_in_place;
        recursive = recursive_in_place;
        select = select_in_place;
      }

  abbrev pub replaced : ℕ → Expr → Expr
  replaced d e = expr_of replacing e d

-- ---- in a query

-- the same column, seen from d selects further in
abbrev pub further : ℕ → Col → Col
further d c = record c { level = c.level + d }

abbrev pub column_of : (ℕ → Col) → ℕ → ℕ → Expr
column_of ref d i = expr.Column (further d (ref i))

abbrev pub with_cast : Ty → Expr → Expr
with_cast t e = expr.Cast e t

-- Each slot is a column, `ref i` where the expression stands, and each literal has the cast to its
-- type. The literal NULL stands as it is.
abbrev pub placed : (ℕ → Col) → Expr → Expr
placed ref e = replaced (column_of ref) with_cast 0 e

-- the whole expression of a place that asks for type t, where the literal NULL has the cast to it
abbrev pub placed_at : Ty → (ℕ → Col) → Expr → Expr
placed_at t ref expr.Null = with_cast t expr.Null
placed_at t ref e = placed ref e
