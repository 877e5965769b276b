-- The marks of a select of SELECT INTO: which of its items are converted to the types of their
-- targets. Behind names an item's alias is its mark.
use Rattle.std.specs.Prelude.{Bool, List, is_some, map}
use Rattle.away_trees.specs.declared.queries.Expr.TheViews.{out-Item, out-Select}
use Rattle.away_trees.specs.declared.queries.Item.{Item}
use Rattle.away_trees.specs.declared.queries.Select.{Select}

abbrev pub marks : List Item → List Bool
marks = map (λ i. is_some (out-Item i).alias)

abbrev pub marks_of : Select → List Bool
marks_of s = marks (out-Select s).list
