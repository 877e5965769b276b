-- The trees with names again, by name, and without the marks of their operations: as they are
-- written.
use Rattle.std.specs.Prelude.{List, [], map, fold, option_map}
use Rattle.away_values.specs.declared.operators.ChainOp.{ChainOp}
use Rattle.away_trees.specs.declared.queries.Expr.{Expr}
use Rattle.away_trees.specs.declared.queries.Source.{Source}
use Rattle.away_trees.specs.declared.queries.FromItem.{FromItem}
use Rattle.away_trees.specs.declared.queries.Item.{Item}
use Rattle.away_trees.specs.declared.queries.Key.{Key}
use Rattle.away_trees.specs.declared.queries.Select.{Select}
use Rattle.away_trees.specs.declared.queries.Recursive.{Recursive}
use Rattle.away_trees.specs.declared.queries.Query.{Query}
use Rattle.away_trees.specs.declared.queries.Expr.TheOpen.{Select-F}
use Rattle.away_trees.specs.Algebra as algebra
use Rattle.away_names.specs.declared.note.Shown.{Shown}
use Rattle.away_names.specs.declared.note.Column.{Column}
use Rattle.away_names.specs.declared.note.Framed.{Framed}
use Rattle.away_names.specs.declared.note.Part.{Part}
use Rattle.away_names.specs.declared.note.Origin.{Origin}
use Rattle.away_names.specs.Lookups.{Name, Level}
use Rattle.elaboration.specs.Marks.{plain_op}
use Rattle.qualified_names.specs.Sight.{Sight}
use Rattle.qualified_names.specs.Qualifying.{
  qualifying,
  with_part,
  no_part,
  listed,
  select_of,
  united,
}

unfoldable pub qualified_expr : Expr → Sight → Expr
qualified_expr e = algebra.expr_of qualifying e

unfoldable pub qualified_item : Item → Sight → Column
qualified_item i = algebra.item_of qualifying i

unfoldable pub qualified_key : Key → Sight → Key
qualified_key k = algebra.key_of qualifying k

unfoldable pub qualified_source : Source → List Name → Sight → Level → Origin
qualified_source x = algebra.source_of qualifying x

unfoldable pub qualified_part : FromItem → Sight → Level → Part
qualified_part f = algebra.from_of qualifying f

unfoldable pub qualified_select : Select → Sight → Shown Select
qualified_select x = algebra.select_of qualifying x

unfoldable pub qualified_recursive : Recursive → Sight → Recursive
qualified_recursive r = algebra.recursive_of qualifying r

unfoldable pub qualified_shown : Query → Sight → Shown Query
qualified_shown q = algebra.query_of qualifying q

-- a whole query, which sees nothing
abbrev pub qualified : Query → Query
qualified q = (qualified_shown q []).it

-- ---- lists of them

abbrev pub qualified_in : Sight → Expr → Expr
qualified_in s e = qualified_expr e s

abbrev pub qualified_link : Sight → ChainOp × Expr → ChainOp × Expr
qualified_link s l = (plain_op l.0, qualified_expr l.1 s)

abbrev pub qualified_arm : Sight → Expr × Expr → Expr × Expr
qualified_arm s a = (qualified_expr a.0 s, qualified_expr a.1 s)

abbrev pub qualified_items : Sight → List Item → Shown (List Item)
qualified_items s list = listed (map (λ i. qualified_item i s) list)

abbrev pub qualified_keys : Sight → List Key → List Key
qualified_keys s keys = map (λ k. qualified_key k s) keys

abbrev pub qualified_selects : Sight → List Select → Shown (List Select)
qualified_selects s xs = united (map (λ x. qualified_select x s) xs)

abbrev pub qualified_from : Sight → List FromItem → Framed
qualified_from s = fold (λ a f. with_part a (qualified_part f s a.seen)) no_part

-- what stands over the items of FROM, which are in sight
abbrev pub qualified_over : Select-F Expr Source FromItem Item Key Query Recursive Select → Sight → List FromItem → Shown Select
qualified_over x s from = select_of from (qualified_items s x.list) (option_map (qualified_in s) x.filter) (qualified_keys s x.order)
    (option_map (qualified_in s) x.limit)
