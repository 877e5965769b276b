-- The recursive table with its names, where each row carries further values and each column stands
-- by its place.
use Rattle.std.specs.Prelude.{ℕ, suc, List, [], ◌∷◌, length, slice_get, Some, None}
use Rattle.away_trees.specs.declared.queries.Expr.{Expr}
use Rattle.away_trees.specs.declared.queries.Expr.TheViews.{roll-Recursive, roll-Query}
use Rattle.away_trees.specs.declared.queries.FromItem.{FromItem}
use Rattle.away_trees.specs.declared.queries.Recursive.{Recursive}
use Rattle.away_trees.specs.declared.queries.Select.{Select}
use Rattle.away_values.specs.declared.types.Ty.{Ty}
use Rattle.call_forms.specs.Bodies.{body_of}
use Rattle.call_forms.specs.Carrying.{is_label}
use Rattle.call_forms.specs.Forms.{params_of}
use Rattle.call_forms.specs.Scopes.{paired}
use Rattle.sql_meaning.specs.Trees.{col, select}
use Rattle.cte_template.specs.CarriedWalks.{walk, all_columns}
use Rattle.cte_template.specs.Making.{Making}
use Rattle.cte_parts.specs.Names.{table_name, step_name, names_carrying}
use Rattle.cte_template.specs.Places.{nowhere, carried_place}
use Rattle.cte_parts.specs.Trees.{lateral_as, gate_as, working_carrying}
use Rattle.cte_template.specs.Written.{Walked, selected, keys_of}

-- how many columns hold values
abbrev pub width : Making → ℕ
width m = length m.tail.columns

-- the row is at the label with this number
abbrev pub at_label : Making → ℕ → Expr
at_label m n = is_label n

module _ (m : Making) (carried : List Ty) where
  -- the names of the columns
  abbrev pub column_names : List (List ℕ)
  column_names = names_carrying (length carried) (width m)

  -- label i, counted from 0, whose block is b, behind its gate
  abbrev pub walk_of : ℕ → ℕ → Walked
  walk_of i b =
      walk m carried 1
      (paired (carried_place carried) nowhere (params_of (slice_get m.anf.blocks b)) (keys_of m i))
      (gate_as 1 (at_label m (suc i)) ∷ []) 2 (body_of m.anf m.tail b)

  -- the branch of label i, counted from 0, whose block is b
  abbrev pub branch : ℕ → ℕ → Select
  branch i b = selected (walk_of i b)

  -- the branches of labels from the i-th on
  abbrev pub branches : ℕ → List ℕ → List Select
  branches i [] = []
  branches i (b ∷ bs) = branch i b ∷ branches (suc i) bs

  -- the rows of the labels
  abbrev pub label_rows : FromItem
  label_rows =
      lateral_as step_name column_names
      (roll-Query (record { recursive = None; selects = branches 0 m.tail.labels }))

  -- from a row to the next, while the call goes on
  abbrev pub step : ℕ → Select
  step tables =
      select (all_columns m carried 1)
      (working_carrying tables (length carried) (width m) ∷ label_rows ∷ []) (Some (col 0 0 0))

  -- the recursive table over so many tables: these first rows, and the rows that follow from a row
  abbrev pub carried_table : List Select → ℕ → Recursive
  carried_table first tables =
      roll-Recursive (record {
        name = table_name;
        columns = column_names;
        first = first;
        second = step tables;
      })
