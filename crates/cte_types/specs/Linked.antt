-- Expressions that are no chain without links.
use Rattle.away_trees.specs.declared.queries.Expr.{Expr}
use Rattle.away_trees.specs.declared.queries.Expr.TheBlock as b
use Rattle.away_trees.specs.declared.queries.Expr.TheViews.{out-Item, out-Select}
use Rattle.away_trees.specs.declared.queries.Item.{Item}
use Rattle.block_forms.specs.Intos.{Into}
use Rattle.block_forms.specs.Places.{Each}

abbrev pub AreLinks : {m : _} → b.Row_of-Expr-Chain-1-2 m → Type 0
AreLinks b.end_of-Expr-Chain-1-2 = ⊥
AreLinks (b.more_of-Expr-Chain-1-2 op e rest) = Unit {0}

-- A chain without links has the value of its operand, and no reader makes one. As a whole the
-- expression is none.
abbrev pub IsLinked : Expr → Type 0
IsLinked (b.Chain' p e s links) = AreLinks links
IsLinked _ = Unit {0}

-- nor is an item of a SELECT INTO
abbrev pub HasLinkedItems : Into → Type 0
HasLinkedItems i = Each (λ (x : Item). IsLinked (out-Item x).expr) (out-Select i.query).list
