-- The renaming of slots: an expression with other slots in place of its own. Names in it, which
-- mean nothing once names are resolved, may differ.
use Rattle.std.specs.Prelude.{◌≡◌, ℕ, Bool, true, false, [], ◌∷◌, Option, Some, None}
use Rattle.std.specs.List.{list_all}
use Rattle.away_values.specs.declared.types.Ty.{Ty}
use Rattle.away_trees.specs.declared.queries.Expr.{Expr}
use Rattle.away_trees.specs.declared.queries.Expr.TheVariants as expr
use Rattle.away_trees.specs.declared.queries.Expr.TheViews.{roll-Query}
use Rattle.away_trees.specs.declared.queries.Query.{Query}
use Rattle.away_trees.specs.declared.queries.Select.{Select}
use Rattle.away_trees.specs.Algebra.{expr_of, select_of}
use Rattle.sql_meaning.specs.Names.{bare, bare_value}
use Rattle.sql_meaning.specs.Placed.{replaced, replacing}
use Rattle.sql_meaning.specs.Reads.{Read, Slot, Param, Table, Outer, reading}
use Rattle.call_meaning.specs.Alike.{Slots}
use Rattle.call_meaning.specs.Expands.{Renaming}
use Rattle.call_meaning.specs.Marks.{marks_of}

abbrev pub in_sight : Option ℕ → Bool
in_sight None = false
in_sight (Some j) = true

abbrev pub moved : Option ℕ → ℕ → Expr
moved None i = expr.Slot i
moved (Some j) i = expr.Slot j

abbrev pub same_literal : Ty → Expr → Expr
same_literal t e = e

abbrev pub moved_value : Slots → Expr → Expr
moved_value m e = replaced (λ d i. moved (m i) i) same_literal 0 e

abbrev pub moved_select : Slots → Select → Select
moved_select m s = select_of (replacing (λ d i. moved (m i) i) same_literal) s 0

-- the query that a select alone is
abbrev pub alone : Select → Query
alone s = roll-Query (record { recursive = None; selects = s ∷ [] })

-- slots in sight and tables, no parameter and no column from outside
abbrev pub sees : Slots → Read → Bool
sees m (Slot i) = in_sight (m i)
sees m (Param i) = false
sees m (Table k) = true
sees m (Outer c) = false

-- It reads what is in sight alone.
pub record ExprRenamed (m : Slots) (e e' : Expr) : Type 0 where
  pub reads : list_all (sees m) (expr_of reading e 0) ≡ true
  pub is : bare_value e' ≡ bare_value (moved_value m e)

-- the same of a select of SELECT INTO, of which the same items are marked
pub record SelectRenamed (m : Slots) (s s' : Select) : Type 0 where
  pub reads : list_all (sees m) (select_of reading s 0) ≡ true
  pub marks : marks_of s ≡ marks_of s'
  pub is : bare (alone s') ≡ bare (alone (moved_select m s))

abbrev pub renaming : Renaming
renaming = record { expr = ExprRenamed; select = SelectRenamed }
