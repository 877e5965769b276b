-- A query without its names: no alias, no column name, no table name. A table is known by its
-- place.
use Rattle.std.specs.Prelude.{ℕ, List, [], take, None}
use Rattle.away_trees.specs.declared.queries.Expr.{Expr}
use Rattle.away_trees.specs.declared.queries.Expr.TheVariants as expr
use Rattle.away_trees.specs.declared.queries.Source.{Source}
use Rattle.away_trees.specs.declared.queries.Source.TheVariants as source
use Rattle.away_trees.specs.declared.queries.FromItem.{FromItem}
use Rattle.away_trees.specs.declared.queries.Item.{Item}
use Rattle.away_trees.specs.declared.queries.Key.{Key}
use Rattle.away_trees.specs.declared.queries.Select.{Select}
use Rattle.away_trees.specs.declared.queries.Recursive.{Recursive}
use Rattle.away_trees.specs.declared.queries.Query.{Query}
use Rattle.away_trees.specs.declared.queries.Expr.TheOpen.{
  Expr-F,
  Source-F,
  FromItem-F,
  Item-F,
  Key-F,
  Select-F,
  Recursive-F,
  Query-F,
}
use Rattle.away_trees.specs.declared.queries.Expr.TheOpen as ex
use Rattle.away_trees.specs.declared.queries.Expr.TheViews.{
  roll-Item,
  roll-FromItem,
  roll-Key,
  roll-Select,
  roll-Recursive,
  roll-Query,
}
use Rattle.away_trees.specs.Algebra.{Algebra, expr_of, query_of}

abbrev pub bare_expr : Expr-F Expr Source FromItem Item Key Query Recursive Select → Expr
bare_expr (ex.Int n) = expr.Int n
bare_expr (ex.Str t) = expr.Str t
bare_expr (ex.Bool v) = expr.Bool v
bare_expr ex.Null = expr.Null
bare_expr (ex.Named name) = expr.Named name
bare_expr (ex.Dotted alias name) = expr.Dotted alias name
bare_expr (ex.Slot i) = expr.Slot i
bare_expr (ex.Column c) = expr.Column c
bare_expr (ex.Param i t) = expr.Param i t
bare_expr (ex.Neg e) = expr.Neg e
bare_expr (ex.NegSmall e) = expr.NegSmall e
bare_expr (ex.Not e) = expr.Not e
bare_expr (ex.Is e test negative) = expr.Is e test negative
bare_expr (ex.Chain e links) = expr.Chain e links
bare_expr (ex.Compare op x y) = expr.Compare op x y
bare_expr (ex.Between negative x y z) = expr.Between negative x y z
bare_expr (ex.OneOf negative e choices) = expr.OneOf negative e choices
bare_expr (ex.Cast e t) = expr.Cast e t
bare_expr (ex.Cases arms other) = expr.Cases arms other
bare_expr (ex.Call name es) = expr.Call name es
bare_expr ex.CountRows = expr.CountRows
bare_expr (ex.Scalar q) = expr.Scalar q
bare_expr (ex.Exists q) = expr.Exists q

-- without a table's name
abbrev pub bare_source : Source-F Expr Source FromItem Item Key Query Recursive Select → Source
bare_source (ex.Table name) = source.Table []
bare_source (ex.Sub q lateral) = source.Sub q lateral

-- the digits of a table's place stand first in its item's list of columns
abbrev pub bare_columns : Source → List (List ℕ) → List (List ℕ)
bare_columns (source.Table name) columns = take 1 columns
bare_columns _ columns = []

abbrev pub bare_from : FromItem-F Expr Source FromItem Item Key Query Recursive Select → FromItem
bare_from f = roll-FromItem (record { source = f.source; alias = []; columns = bare_columns f.source f.columns })

abbrev pub bare_item : Item-F Expr Source FromItem Item Key Query Recursive Select → Item
bare_item i = roll-Item (record { expr = i.expr; alias = None })

abbrev pub bare_key : Key-F Expr Source FromItem Item Key Query Recursive Select → Key
bare_key k = roll-Key (record { expr = k.expr; descending = k.descending })

abbrev pub bare_select : Select-F Expr Source FromItem Item Key Query Recursive Select → Select
bare_select s = roll-Select (record { list = s.list; from = s.from; filter = s.filter; order = s.order; limit = s.limit })

abbrev pub bare_recursive : Recursive-F Expr Source FromItem Item Key Query Recursive Select → Recursive
bare_recursive r = roll-Recursive (record { name = []; columns = []; first = r.first; second = r.second })

abbrev pub bare_query : Query-F Expr Source FromItem Item Key Query Recursive Select → Query
bare_query q = roll-Query (record { recursive = q.recursive; selects = q.selects })

abbrev pub nameless : Algebra
nameless =
    record {
      AnExpr = Expr;
      ASource = Source;
      AFrom = FromItem;
      AnItem = Item;
      AKey = Key;
      AQuery = Query;
      ARecursive = Recursive;
      ASelect = Select;
      no_expr = expr.Null;
      no_query = roll-Query (record { recursive = None; selects = [] });
      expr = bare_expr;
      source = bare_source;
      from = bare_from;
      item = bare_item;
      key = bare_key;
      query = bare_query;
      recursive = bare_recursive;
      select = bare_select;
    }

-- the tree without its names
abbrev pub bare : Query → Query
bare = query_of nameless

-- the same of an expression
abbrev pub bare_value : Expr → Expr
bare_value = expr_of nameless
