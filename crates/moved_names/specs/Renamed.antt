-- Trees with other names for their variables, by name.
use Rattle.std.specs.Prelude.{ℕ, List, [], slice_index_or, Option, Some, None, option_map}
use Rattle.away_values.specs.declared.operators.ChainOp.{ChainOp}
use Rattle.away_trees.specs.declared.queries.Expr.{Expr}
use Rattle.away_trees.specs.declared.queries.Source.{Source}
use Rattle.away_trees.specs.declared.queries.FromItem.{FromItem}
use Rattle.away_trees.specs.declared.queries.Item.{Item}
use Rattle.away_trees.specs.declared.queries.Key.{Key}
use Rattle.away_trees.specs.declared.queries.Select.{Select}
use Rattle.away_trees.specs.declared.queries.Recursive.{Recursive}
use Rattle.away_trees.specs.declared.queries.Query.{Query}
use Rattle.away_trees.specs.Algebra.{
  expr_of,
  source_of,
  from_of,
  item_of,
  key_of,
  query_of,
  recursive_of,
  select_of,
}
use Rattle.away_names.specs.declared.scope.Variable.{Variable}
use Rattle.away_names.specs.Lookups.{Name, variable_named}
use Rattle.moved_names.specs.declared.sight.Sight.{Sight}
use Rattle.moved_names.specs.Renaming.{renaming}

-- ---- names by their places in a list of new ones

-- the new name at a place
abbrev pub name_at : List Name → ℕ → Name
name_at names i = slice_index_or names i []

-- a name that no visible variable has stays
abbrev pub moved_by : List Name → Name → Option Variable → Name
moved_by names n None = n
moved_by names n (Some v) = name_at names v.slot

-- the new name of the innermost variable of the name, by the place that is noted as its slot
unfoldable pub moved : List Name → List Variable → Name → Name
moved names seen n = moved_by names n (variable_named n seen)

-- what the code's is to the definitions
abbrev pub moving : Sight → Name → Name
moving s = moved s.names.now s.seen.now

abbrev pub maybe_moved : List Name → List Variable → Option Name → Option Name
maybe_moved names seen = option_map (moved names seen)

-- ---- trees

module _ (to : Name → Name) where
  unfoldable pub renamed_expr : Expr → Expr
  renamed_expr e = expr_of (renaming to) e

  unfoldable pub renamed_source : Source → Source
  renamed_source x = source_of (renaming to) x

  unfoldable pub renamed_part : FromItem → FromItem
  renamed_part x = from_of (renaming to) x

  unfoldable pub renamed_item : Item → Item
  renamed_item x = item_of (renaming to) x

  unfoldable pub renamed_key : Key → Key
  renamed_key x = key_of (renaming to) x

  unfoldable pub renamed_select : Select → Select
  renamed_select x = select_of (renaming to) x

  unfoldable pub renamed_recursive : Recursive → Recursive
  renamed_recursive x = recursive_of (renaming to) x

  unfoldable pub renamed_query : Query → Query
  renamed_query x = query_of (renaming to) x

  abbrev pub renamed_link : ChainOp × Expr → ChainOp × Expr
  renamed_link l = (l.0, renamed_expr l.1)

  abbrev pub renamed_arm : Expr × Expr → Expr × Expr
  renamed_arm a = (renamed_expr a.0, renamed_expr a.1)
