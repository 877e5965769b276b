-- The passes over queries and expressions, by name.
use Rattle.std.specs.Prelude.{ℕ, Bool, List, Option}
use Rattle.away_trees.specs.declared.queries.Expr.{Expr}
use Rattle.away_trees.specs.declared.queries.Expr.TheBlock as b
use Rattle.away_trees.specs.declared.queries.Source.{Source}
use Rattle.away_trees.specs.declared.queries.FromItem.{FromItem}
use Rattle.away_trees.specs.declared.queries.Item.{Item}
use Rattle.away_trees.specs.declared.queries.Key.{Key}
use Rattle.away_trees.specs.declared.queries.Select.{Select}
use Rattle.away_trees.specs.declared.queries.Query.{Query}
use Rattle.away_trees.specs.Algebra.{
  expr_of,
  source_of,
  from_of,
  item_of,
  key_of,
  query_of,
  select_of,
}
use Rattle.away_typing.specs.declared.kind.Kind.{Kind}
use Rattle.away_typing.specs.declared.uses.Uses.{Uses}
use Rattle.away_typing.specs.Aggregates.{using_}
use Rattle.away_typing.specs.Typing.{Places, Frame, Shape, typing}

-- ---- aggregates

unfoldable pub uses_of : Expr → Uses
uses_of e = (expr_of using_ e).uses

unfoldable pub uses_of_source : Source → Uses
uses_of_source x = (source_of using_ x).uses

unfoldable pub uses_of_select : Select → Uses
uses_of_select x = (select_of using_ x).uses

unfoldable pub uses_of_query : Query → Uses
uses_of_query q = (query_of using_ q).uses

-- whether a column of the select that many levels outward stands in it

unfoldable pub names_at : ℕ → Expr → Bool
names_at level e = (expr_of using_ e).names level

unfoldable pub source_names_at : ℕ → Source → Bool
source_names_at level x = (source_of using_ x).names level

unfoldable pub select_names_at : ℕ → Select → Bool
select_names_at level x = (select_of using_ x).names level

unfoldable pub query_names_at : ℕ → Query → Bool
query_names_at level q = (query_of using_ q).names level

-- ---- types

unfoldable pub kind_of : Expr → Places → Kind
kind_of e = expr_of typing e

unfoldable pub shape_of_source : Source → List (List ℕ) → Places → Frame → Shape
shape_of_source x = source_of typing x

unfoldable pub shape_of_part : FromItem → Places → Frame → Shape
shape_of_part f = from_of typing f

unfoldable pub kinds_of_select : Select → Places → Option (List Kind)
kinds_of_select x = select_of typing x

unfoldable pub shape_of_query : Query → Places → Shape
shape_of_query q = query_of typing q
