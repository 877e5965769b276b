-- What stands in a label's body: values, cells and arguments, by the places where names stand.
use Rattle.std.specs.Prelude.{ℕ, suc, List, [], ◌∷◌, get_or, map, Option, Some, None}
use Rattle.away_trees.specs.declared.queries.Col.{Col}
use Rattle.away_trees.specs.declared.queries.Expr.{Expr}
use Rattle.away_trees.specs.declared.queries.Expr.TheVariants as expr
use Rattle.away_trees.specs.declared.queries.Expr.TheViews.{roll-Select}
use Rattle.away_trees.specs.declared.queries.FromItem.{FromItem}
use Rattle.away_trees.specs.declared.queries.Item.{Item}
use Rattle.away_trees.specs.declared.queries.Select.{Select}
use Rattle.away_values.specs.declared.types.Ty.{Ty}
use Rattle.away_values.specs.declared.values.Class.{Class}
use Rattle.block_forms.specs.declared.forms.Term.{Term}
use Rattle.call_forms.specs.Carrying.{text_of}
use Rattle.call_forms.specs.Scopes.{Scope}
use Rattle.sql_meaning.specs.Placed.{placed_at}
use Rattle.sql_meaning.specs.Reads.{slots_of}
use Rattle.sql_meaning.specs.Trees.{null_of, item}
use Rattle.cte_parts.specs.Columns.{column_beside}
use Rattle.cte_parts.specs.Trees.{let_as}
use Rattle.cte_template.specs.Making.{Making}
use Rattle.cte_template.specs.Places.{nowhere, seen, beside}
use Rattle.cte_template.specs.declared.places.ItemColumn.{ItemColumn}

-- the items of a select, its list, and the number of the next alias
pub record Walked : Type 0 where
  pub items : List FromItem
  pub list : List Item
  pub next : ℕ

-- the select of a body
abbrev pub selected : Walked → Select
selected w =
    roll-Select (record {
      list = w.list;
      from = w.items;
      filter = None;
      order = [];
      limit = None;
    })

abbrev pub ended : List FromItem → List Expr → ℕ → Walked
ended items list next = record { items = items; list = map item list; next = next }

-- the column of a name, from a list at the depth
abbrev pub column_at : ℕ → Scope ItemColumn → ℕ → Col
column_at depth places n = seen depth (places n)

-- the column of a name, and NULL of the type where there is none
abbrev pub cell : ℕ → Scope ItemColumn → Ty → Option ℕ → Expr
cell depth places t None = null_of t
cell depth places t (Some n) = expr.Column (column_at depth places n)

-- the cells of columns from the i-th on: of the names in a label's places
abbrev pub cells_at : ℕ → ℕ → Scope ItemColumn → List ℕ → List ℕ → List Ty → List Expr
cells_at i depth places keys args [] = []
cells_at i depth places keys args (t ∷ ts) =
    cell depth places t (beside keys args i) ∷ cells_at (suc i) depth places keys args ts

module _ (m : Making) where
  -- the expression of a term, where its slots are the columns of its names, one select further in
  abbrev pub value_at : ℕ → Scope ItemColumn → Ty → Term → Expr
  value_at depth places t u =
      let e : Expr = get_or m.table u.expr expr.Null in
      placed_at t
      (column_beside (slots_of e) (map (column_at (suc depth) places) u.names)
      (seen (suc depth) nowhere)) e

  abbrev pub let_at : ℕ → Scope ItemColumn → ℕ → Ty → Term → FromItem
  let_at depth places k t u = let_as k (value_at depth places t u)

  -- the places of a label's parameters
  abbrev pub keys_of : ℕ → List ℕ
  keys_of label = get_or m.tail.places label []

  -- a parameter of the query by the name that holds it, and NULL of the type where there is none
  abbrev pub argument : Ty → Option ℕ → Expr
  argument t None = null_of t
  argument t (Some n) = expr.Param (suc n) (m.types n)

  abbrev pub arguments_at : ℕ → List ℕ → List ℕ → List Ty → List Expr
  arguments_at i keys params [] = []
  arguments_at i keys params (t ∷ ts) =
      argument t (beside keys params i) ∷ arguments_at (suc i) keys params ts

  abbrev pub class_text : Class → Expr
  class_text = text_of
