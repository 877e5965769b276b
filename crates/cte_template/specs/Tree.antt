-- The whole query with its names, where each column stands by its place. Its rows carry nothing.
use Rattle.std.specs.Prelude.{ℕ, suc, pos, true, List, [], ◌∷◌, ◌++◌, slice_get, Some, None}
use Rattle.away_trees.specs.declared.queries.Expr.{Expr}
use Rattle.away_trees.specs.declared.queries.Expr.TheVariants as expr
use Rattle.away_trees.specs.declared.queries.Expr.TheViews.{roll-Query}
use Rattle.away_trees.specs.declared.queries.FromItem.{FromItem}
use Rattle.away_trees.specs.declared.queries.Query.{Query}
use Rattle.away_trees.specs.declared.queries.Recursive.{Recursive}
use Rattle.away_trees.specs.declared.queries.Select.{Select}
use Rattle.away_values.specs.declared.types.Ty.TheVariants as ty
use Rattle.call_forms.specs.Forms.{params_of}
use Rattle.call_forms.specs.Template.{entry_place}
use Rattle.sql_meaning.specs.Trees.{col, number, truth, null_of, select}
use Rattle.cte_template.specs.CarriedTree as carrying
pub use Rattle.cte_template.specs.CarriedTree.{width, at_label}
use Rattle.cte_template.specs.Making.{Making}
use Rattle.cte_parts.specs.Trees.{working}
use Rattle.cte_template.specs.Written.{arguments_at, keys_of}

-- the branch of label i, counted from 0, whose block is b
abbrev pub branch : Making → ℕ → ℕ → Select
branch m = carrying.branch m []

-- the branches of labels from the i-th on
abbrev pub branches : Making → ℕ → List ℕ → List Select
branches m = carrying.branches m []

-- the first row: at the entry's label, with the arguments
abbrev pub start : Making → ℕ → Select
start m entry =
    let place : ℕ = entry_place m.table m.types m.result m.anf m.tail entry in
    let arguments : List Expr
    = arguments_at m 0 (keys_of m place) (params_of (slice_get m.anf.blocks entry)) m.tail.columns in
    select
    (truth true
    ∷ number (pos (suc place))
    ∷ arguments ++ (null_of m.result ∷ null_of ty.Text ∷ [])) [] None

-- the rows of the labels
abbrev pub label_rows : Making → FromItem
label_rows m = carrying.label_rows m []

-- from a row to the next, while the call goes on
abbrev pub step : Making → ℕ → Select
step m = carrying.step m []

-- the result and the fault of the finished row
abbrev pub last : Making → ℕ → Select
last m tables =
    select (col 0 0 (suc (suc (width m))) ∷ col 0 0 (suc (suc (suc (width m)))) ∷ [])
    (working tables (width m) ∷ []) (Some (expr.Not (col 0 0 0)))

abbrev pub working_table : Making → ℕ → ℕ → Recursive
working_table m entry = carrying.carried_table m [] (start m entry ∷ [])

abbrev pub tree : Making → ℕ → ℕ → Query
tree m entry tables =
    roll-Query (record {
      recursive = Some (working_table m entry tables);
      selects = last m tables ∷ [];
    })
