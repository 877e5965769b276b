-- Trees with their types, and what stands for a tree that is to be marked: both, by the places.
use Rattle.std.specs.Prelude.{ℕ, List}
use Rattle.away_trees.specs.declared.queries.Expr.{Expr}
use Rattle.away_trees.specs.declared.queries.Source.{Source}
use Rattle.away_trees.specs.declared.queries.FromItem.{FromItem}
use Rattle.away_trees.specs.declared.queries.Item.{Item}
use Rattle.away_trees.specs.declared.queries.Key.{Key}
use Rattle.away_trees.specs.declared.queries.Select.{Select}
use Rattle.away_trees.specs.declared.queries.Recursive.{Recursive}
use Rattle.away_trees.specs.declared.queries.Query.{Query}
use Rattle.away_typing.specs.Typing.{Frame, Places}
use Rattle.elaboration.specs.declared.made.Made.{Made}
use Rattle.elaboration.specs.declared.made.Shaped.{Shaped}
use Rattle.elaboration.specs.declared.made.Selected.{Selected}

abbrev pub MadeExpr : Type 0
MadeExpr = Made Expr

abbrev pub MadeSource : Type 0
MadeSource = Shaped Source

abbrev pub MadeFrom : Type 0
MadeFrom = Shaped FromItem

abbrev pub MadeItem : Type 0
MadeItem = Made Item

abbrev pub MadeKey : Type 0
MadeKey = Made Key

abbrev pub MadeSelect : Type 0
MadeSelect = Selected Select

abbrev pub MadeQuery : Type 0
MadeQuery = Shaped Query

abbrev pub Making : Type 0
Making = Places → MadeExpr

abbrev pub Sourcing : Type 0
Sourcing = List (List ℕ) → Places → Frame → MadeSource

abbrev pub Parting : Type 0
Parting = Places → Frame → MadeFrom

abbrev pub Itemizing : Type 0
Itemizing = Places → MadeItem

abbrev pub Sorting : Type 0
Sorting = Places → MadeKey

abbrev pub Selecting : Type 0
Selecting = Places → MadeSelect

abbrev pub Asking : Type 0
Asking = Places → MadeQuery

abbrev pub Recursing : Type 0
Recursing = Places → Recursive
