-- A tree in which the variables have other names. A column keeps its own: where no rule on names is
-- broken, a name that stands alone is a variable's or a column's, and never one that is both.
use Rattle.std.specs.Prelude.{[], None}
use Rattle.away_trees.specs.declared.queries.Expr.{Expr}
use Rattle.away_trees.specs.declared.queries.Expr.TheVariants as expr
use Rattle.away_trees.specs.declared.queries.Source.{Source}
use Rattle.away_trees.specs.declared.queries.Source.TheVariants as source
use Rattle.away_trees.specs.declared.queries.FromItem.{FromItem}
use Rattle.away_trees.specs.declared.queries.Item.{Item}
use Rattle.away_trees.specs.declared.queries.Key.{Key}
use Rattle.away_trees.specs.declared.queries.Select.{Select}
use Rattle.away_trees.specs.declared.queries.Recursive.{Recursive}
use Rattle.away_trees.specs.declared.queries.Query.{Query}
use Rattle.away_trees.specs.declared.queries.Expr.TheOpen.{
  Expr-F,
  Source-F,
  FromItem-F,
  Item-F,
  Key-F,
  Select-F,
  Recursive-F,
  Query-F,
}
use Rattle.away_trees.specs.declared.queries.Expr.TheOpen as ex
use Rattle.away_trees.specs.declared.queries.Expr.TheViews.{
  roll-FromItem,
  roll-Item,
  roll-Key,
  roll-Select,
  roll-Recursive,
  roll-Query,
}
use Rattle.away_trees.specs.Algebra.{Algebra}
use Rattle.away_names.specs.Lookups.{Name}

abbrev pub Layer :
    (Type 0 → Type 0 → Type 0 → Type 0 → Type 0 → Type 0 → Type 0 → Type 0 → Type 0) → Type 0
Layer F = F Expr Source FromItem Item Key Query Recursive Select

-- `to n` is the name that stands for n
module _ (to : Name → Name) where
  abbrev pub term : Layer Expr-F → Expr
  term (ex.Int n) = expr.Int n
  term (ex.Str t) = expr.Str t
  term (ex.Bool v) = expr.Bool v
  term ex.Null = expr.Null
  term (ex.Named name) = expr.Named (to name)
  term (ex.Dotted alias name) = expr.Dotted alias name
  term (ex.Slot i) = expr.Slot i
  term (ex.Column c) = expr.Column c
  term (ex.Param i t) = expr.Param i t
  term (ex.Neg e) = expr.Neg e
  term (ex.NegSmall e) = expr.NegSmall e
  term (ex.Not e) = expr.Not e
  term (ex.Is e test negative) = expr.Is e test negative
  term (ex.Chain e links) = expr.Chain e links
  term (ex.Compare op x y) = expr.Compare op x y
  term (ex.Between negative x y z) = expr.Between negative x y z
  term (ex.OneOf negative e choices) = expr.OneOf negative e choices
  term (ex.Cast e t) = expr.Cast e t
  term (ex.Cases arms other) = expr.Cases arms other
  term (ex.Call name es) = expr.Call name es
  term ex.CountRows = expr.CountRows
  term (ex.Scalar q) = expr.Scalar q
  term (ex.Exists q) = expr.Exists q

  abbrev pub rows : Layer Source-F → Source
  rows (ex.Table name) = source.Table name
  rows (ex.Sub q lateral) = source.Sub q lateral

  abbrev pub piece : Layer FromItem-F → FromItem
  piece f = roll-FromItem (record { source = f.source; alias = f.alias; columns = f.columns })

  abbrev pub entry : Layer Item-F → Item
  entry i = roll-Item (record { expr = i.expr; alias = i.alias })

  abbrev pub sort : Layer Key-F → Key
  sort k = roll-Key (record { expr = k.expr; descending = k.descending })

  abbrev pub listing : Layer Select-F → Select
  listing s = roll-Select (record {
    list = s.list;
    from = s.from;
    filter = s.filter;
    order = s.order;
    limit = s.limit;
  })

  abbrev pub terms : Layer Recursive-F → Recursive
  terms r = roll-Recursive (record {
    name = r.name;
    columns = r.columns;
    first = r.first;
    second = r.second;
  })

  abbrev pub whole : Layer Query-F → Query
  whole q = roll-Query (record { recursive = q.recursive; selects = q.selects })

  abbrev pub renaming : Algebra
  renaming = record {
    AnExpr = Expr;
    ASource = Source;
    AFrom = FromItem;
    AnItem = Item;
    AKey = Key;
    AQuery = Query;
    ARecursive = Recursive;
    ASelect = Select;
    no_expr = expr.Null;
    no_query = roll-Query (record { recursive = None; selects = [] });
    expr = term;
    source = rows;
    from = piece;
    item = entry;
    key = sort;
    query = whole;
    recursive = terms;
    select = listing;
  }
