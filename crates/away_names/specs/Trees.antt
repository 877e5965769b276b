-- The resolved trees of queries and expressions, by name.
use Rattle.std.specs.Prelude.{List, Option, Some, None}
use Rattle.away_trees.specs.declared.queries.Expr.{Expr}
use Rattle.away_trees.specs.declared.queries.Expr.TheBlock as b
use Rattle.away_trees.specs.declared.queries.Source.{Source}
use Rattle.away_trees.specs.declared.queries.FromItem.{FromItem}
use Rattle.away_trees.specs.declared.queries.Item.{Item}
use Rattle.away_trees.specs.declared.queries.Key.{Key}
use Rattle.away_trees.specs.declared.queries.Select.{Select}
use Rattle.away_trees.specs.declared.queries.Query.{Query}
use Rattle.away_trees.specs.Algebra.{
  expr_of,
  source_of,
  from_of,
  item_of,
  key_of,
  query_of,
  select_of,
}
use Rattle.away_names.specs.declared.note.Noted.{Noted}
use Rattle.away_names.specs.declared.note.Shown.{Shown}
use Rattle.away_names.specs.declared.note.Column.{Column}
use Rattle.away_names.specs.declared.note.Part.{Part}
use Rattle.away_names.specs.declared.note.Origin.{Origin}
use Rattle.away_names.specs.Lookups.{Name, Level, Scope}
use Rattle.away_names.specs.Naming.{naming}

-- ---- names

unfoldable pub named_expr : Expr → Scope → Noted Expr
named_expr e = (expr_of naming e).judge

unfoldable pub named_item : Item → Scope → Noted Column
named_item i = (item_of naming i).judge

unfoldable pub named_key : Key → List (Option Name) → Scope → Noted Key
named_key k = key_of naming k

unfoldable pub named_source : Source → List Name → Scope → Level → Noted Origin
named_source x = source_of naming x

unfoldable pub named_part : FromItem → Scope → Level → Noted Part
named_part f = (from_of naming f).judge

unfoldable pub named_select : Select → Scope → Noted (Shown Select)
named_select x = select_of naming x

unfoldable pub named_query : Query → Scope → Noted (Shown Query)
named_query q = query_of naming q

-- the name of a column that is written with or without its item
unfoldable pub last_of : Expr → Option Name
last_of (b.Named n) = Some n
last_of (b.Dotted a n) = Some n
last_of _ = None

-- the name that is the whole expression
unfoldable pub alone_of : Expr → Option Name
alone_of (b.Named n) = Some n
alone_of _ = None
