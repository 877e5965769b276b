-- Where names stand: the items and columns of the query that hold their values.
use Rattle.std.specs.Prelude.{
  ℕ,
  suc,
  ◌-◌,
  List,
  [],
  ◌∷◌,
  Option,
  Some,
  None,
  if◌then◌else◌,
  cond,
  nat_eq,
}
use Rattle.away_trees.specs.declared.queries.Col.{Col}
use Rattle.away_values.specs.declared.types.Ty.{Ty}
use Rattle.call_forms.specs.Carrying.{behind}
use Rattle.call_forms.specs.Scopes.{Scope, paired}
use Rattle.cte_template.specs.declared.places.ItemColumn.{ItemColumn}

-- a column that no row has: beside the query's step, whose only other item is the working table
abbrev pub nowhere : ItemColumn
nowhere = record { depth = 0; item = 1; column = 0 }

-- the first column of an item of a select
abbrev pub first_of : ℕ → ℕ → ItemColumn
first_of depth item = record { depth = depth; item = item; column = 0 }

-- a column of the working table, behind the flag, the label and what is carried
abbrev pub carried_place : List Ty → ℕ → ItemColumn
carried_place carried column =
    record { depth = 0; item = 0; column = suc (suc (behind carried column)) }

-- a column of the working table, behind the flag and the label
abbrev pub row_place : ℕ → ItemColumn
row_place = carried_place []

-- the column from a list at a depth
abbrev pub seen : ℕ → ItemColumn → Col
seen depth p = record { level = depth - p.depth; item = p.item; column = p.column }

-- the place of a name by the last pair that has it, or d
abbrev pub place_or : ItemColumn → List (ℕ × ItemColumn) → ℕ → ItemColumn
place_or d [] n = d
place_or d (p ∷ ps) n = place_or (if nat_eq p.0 n then p.1 else d) ps n

unfoldable pub place_of : List (ℕ × ItemColumn) → ℕ → ItemColumn
place_of ps n = place_or nowhere ps n

-- the name stands at p from now on
unfoldable pub stands : ℕ → ItemColumn → Scope ItemColumn → Scope ItemColumn
stands n p places m = cond (nat_eq m n) p (places m)

-- the place beside the first key that is n
unfoldable pub at_keys : List ℕ → List ItemColumn → ℕ → ItemColumn
at_keys [] ps n = nowhere
at_keys (k ∷ ks) [] n = nowhere
at_keys (k ∷ ks) (p ∷ ps) n = if nat_eq k n then p else at_keys ks ps n

-- what stands beside the first key that is n
unfoldable pub beside : List ℕ → List ℕ → ℕ → Option ℕ
beside keys names n = paired (λ k. Some k) None keys names n
