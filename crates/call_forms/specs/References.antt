-- References to columns, and the parts of a select behind its gate.
use Rattle.std.specs.Prelude.{ℕ, suc, true, List, [], ◌∷◌, None, cond, nat_eq}
use Rattle.away_trees.specs.declared.queries.Col.{Col}
use Rattle.away_trees.specs.declared.queries.Expr.{Expr}
use Rattle.away_trees.specs.declared.queries.Expr.TheVariants as expr
use Rattle.away_trees.specs.declared.queries.Expr.TheViews.{roll-Query}
use Rattle.away_trees.specs.declared.queries.FromItem.{FromItem}
use Rattle.away_trees.specs.declared.queries.Select.{Select}
use Rattle.away_values.specs.declared.operators.IsTest.TheVariants as test
use Rattle.away_values.specs.declared.types.Ty.{Ty}
use Rattle.sql_meaning.specs.Template.{gate}
use Rattle.sql_meaning.specs.Trees.{null_of, lateral, select}
use Rattle.call_forms.specs.Scopes.{Scope, paired}

-- ---- columns

-- name n stands for c from now on
abbrev pub refers : ℕ → Col → Scope Col → Scope Col
refers n c refs m = cond (nat_eq m n) c (refs m)

-- a column of an item of the select itself
abbrev pub here : ℕ → ℕ → Col
here item place = record { level = 0; item = item; column = place }

-- the same column, seen from one select further in
abbrev pub deeper : Col → Col
deeper c = record c { level = suc c.level }

abbrev pub outside : Scope Col → Scope Col
outside refs n = deeper (refs n)

-- A column that no row has. The row of r is `out` selects outside the one that encloses the list,
-- and r is the only item to the left there.
abbrev pub no_column : ℕ → Col
no_column out = record { level = suc out; item = 1; column = 0 }

-- ---- parts

-- c IS NOT TRUE
abbrev pub is_not_true : Expr → Expr
is_not_true c = expr.Is c (test.True) true

-- the items of a body behind its gate, and its list
pub record Parts : Type 0 where
  pub items : List FromItem
  pub list : List Expr

abbrev pub gated : Expr → Parts → Select
gated c p = select p.list (gate c ∷ p.items) None

-- LATERAL (a UNION ALL b)
abbrev pub either : Select → Select → FromItem
either a b = lateral (roll-Query (record { recursive = None; selects = a ∷ b ∷ [] }))

abbrev pub in_parts : FromItem → Parts → Parts
in_parts item p = record p { items = item ∷ p.items }

-- the references in a label's places, and NULL of its type in each other column
abbrev pub cells : ℕ → Scope Col → List ℕ → List ℕ → List Ty → List Expr
cells i refs places args [] = []
cells i refs places args (t ∷ ts) =
    paired (λ n. expr.Column (refs n)) (null_of t) places args i
    ∷ cells (suc i) refs places args ts
