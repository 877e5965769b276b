-- An expression in whose place of slots, and of columns, others stand.
use Rattle.std.specs.Prelude.{ℕ, nat_lt, if◌then◌else◌}
use Rattle.away_values.specs.declared.types.Ty.{Ty}
use Rattle.away_trees.specs.Algebra.{Algebra, expr_of, item_of}
use Rattle.away_trees.specs.declared.queries.Col.{Col}
use Rattle.away_trees.specs.declared.queries.Expr.{Expr}
use Rattle.away_trees.specs.declared.queries.Expr.TheOpen.{Expr-F}
use Rattle.away_trees.specs.declared.queries.Expr.TheOpen as ex
use Rattle.away_trees.specs.declared.queries.Expr.TheVariants as expr
use Rattle.away_trees.specs.declared.queries.Item.{Item}
use Rattle.sql_meaning.specs.Placed.{Layer, expr_in_place, further, replacing}

abbrev pub as_it_is : Ty → Expr → Expr
as_it_is t e = e

-- `leaf d i` stands for slot i at depth d, and `place d c` for the column c
module _ (leaf : ℕ → ℕ → Expr) (place : ℕ → Col → Expr) where
  abbrev pub expr_moved : Layer Expr-F → ℕ → Expr
  expr_moved (ex.Slot i) d = leaf d i
  expr_moved (ex.Column c) d = place d c
  expr_moved e d = expr_in_place leaf as_it_is e d

  abbrev pub moving : Algebra
  moving = record (replacing leaf as_it_is) { expr = expr_moved }

-- ---- slots that others stand for

abbrev pub same_column : ℕ → Col → Expr
same_column d c = expr.Column c

-- an expression of a list, where `leaf 0 i` stands for slot i
abbrev pub item_filled : (ℕ → ℕ → Expr) → Item → Item
item_filled leaf i = item_of (moving leaf same_column) i 0

-- ---- columns that stand further out

abbrev pub same_slot : ℕ → ℕ → Expr
same_slot d i = expr.Slot i

-- a column from outside is so many selects further out
abbrev pub outward : ℕ → ℕ → Col → Expr
outward n d c = expr.Column (if nat_lt c.level d then c else further n c)

-- an expression as it stands so many selects further in
abbrev pub deeper : ℕ → Expr → Expr
deeper n e = expr_of (moving same_slot (outward n)) e 0
