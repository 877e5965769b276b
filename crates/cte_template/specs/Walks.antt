-- The body of a label as the query of one call has it: the items of its select, its list, and the
-- number of the next alias. Names stand at places. Its rows carry nothing.
use Rattle.std.specs.Prelude.{ℕ, List, []}
use Rattle.away_trees.specs.declared.queries.Expr.{Expr}
use Rattle.away_trees.specs.declared.queries.FromItem.{FromItem}
use Rattle.call_forms.specs.Bodies.{Body}
use Rattle.call_forms.specs.Scopes.{Scope}
use Rattle.cte_template.specs.CarriedWalks as carrying
use Rattle.cte_template.specs.Making.{Making}
pub use Rattle.cte_template.specs.Written.{
  Walked,
  selected,
  ended,
  column_at,
  cell,
  cells_at,
  value_at,
  let_at,
  keys_of,
  argument,
  arguments_at,
  class_text,
}
use Rattle.cte_template.specs.declared.places.ItemColumn.{ItemColumn}

module _ (m : Making) where
  -- a finished row
  abbrev pub end_row : Expr → Expr → List Expr
  end_row = carrying.end_row m [] 0

  -- the row of a call to a label, counted from 0
  abbrev pub call_row : ℕ → Scope ItemColumn → ℕ → List ℕ → List ℕ → List Expr
  call_row = carrying.call_row m []

  abbrev pub all_columns : ℕ → List Expr
  all_columns = carrying.all_columns m []

  -- Behind the items, from alias k on. The list of the select stands at the depth.
  abbrev pub walk : ℕ → Scope ItemColumn → List FromItem → ℕ → Body → Walked
  walk = carrying.walk m []
