-- Small trees, for templates and examples.
use Rattle.std.specs.Prelude.{ℕ, Bool, true, ℤ, List, [], ◌∷◌, map, Option, None, decimal}
use Rattle.away_values.specs.declared.types.Ty.{Ty}
use Rattle.away_values.specs.declared.types.Ty.TheVariants as ty
use Rattle.away_trees.specs.declared.queries.Expr.{Expr}
use Rattle.away_trees.specs.declared.queries.Expr.TheVariants as expr
use Rattle.away_trees.specs.declared.queries.Source.TheVariants as source
use Rattle.away_trees.specs.declared.queries.FromItem.{FromItem}
use Rattle.away_trees.specs.declared.queries.Item.{Item}
use Rattle.away_trees.specs.declared.queries.Select.{Select}
use Rattle.away_trees.specs.declared.queries.Query.{Query}
use Rattle.away_trees.specs.declared.queries.Expr.TheViews.{
  roll-FromItem,
  roll-Item,
  roll-Select,
  roll-Query,
}

-- a column: how many selects further out, of which item, at which place
abbrev pub col : ℕ → ℕ → ℕ → Expr
col level item column = expr.Column (record { level = level; item = item; column = column })

abbrev pub cast_to : Ty → Expr → Expr
cast_to t e = expr.Cast e t

-- CAST(n AS bigint)
abbrev pub number : ℤ → Expr
number n = cast_to ty.Bigint (expr.Int n)

-- CAST(b AS boolean)
abbrev pub truth : Bool → Expr
truth b = cast_to ty.Boolean (expr.Bool b)

-- CAST(NULL AS t)
abbrev pub null_of : Ty → Expr
null_of t = cast_to t expr.Null

-- an item of a list, without alias
abbrev pub item : Expr → Item
item e = roll-Item (record { expr = e; alias = None })

-- LATERAL (q), or (q)
abbrev pub subquery : Bool → Query → FromItem
subquery is_lateral q = roll-FromItem (record { source = source.Sub q is_lateral; alias = []; columns = [] })

abbrev pub lateral : Query → FromItem
lateral = subquery true

-- a table, by the digits of its place
abbrev pub table_by : List ℕ → FromItem
table_by digits = roll-FromItem (record { source = source.Table []; alias = []; columns = digits ∷ [] })

-- a table, by its place
abbrev pub table : ℕ → FromItem
table place = table_by (decimal place)

-- SELECT list FROM from WHERE filter
abbrev pub select : List Expr → List FromItem → Option Expr → Select
select list from filter = roll-Select (record { list = map item list; from = from; filter = filter; order = []; limit = None })

-- a query of one select
abbrev pub one : Select → Query
one s = roll-Query (record { recursive = None; selects = s ∷ [] })
