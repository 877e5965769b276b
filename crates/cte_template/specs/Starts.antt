-- The first rows of many calls, and what is told of their last ones: each row of a table is a call.
use Rattle.std.specs.Prelude.{
  ℕ,
  suc,
  pos,
  true,
  false,
  List,
  [],
  ◌∷◌,
  ◌++◌,
  map,
  Option,
  Some,
  None,
  decimal,
  get_or,
  length,
  slice_get,
}
use Rattle.away_trees.specs.declared.queries.Expr.{Expr}
use Rattle.away_trees.specs.declared.queries.Expr.TheVariants as expr
use Rattle.away_trees.specs.declared.queries.Expr.TheViews.{
  roll-FromItem,
  roll-Key,
  roll-Select,
}
use Rattle.away_trees.specs.declared.queries.FromItem.{FromItem}
use Rattle.away_trees.specs.declared.queries.Select.{Select}
use Rattle.away_trees.specs.declared.queries.Source.TheVariants as source
use Rattle.away_trees.specs.declared.schemas.ColumnSchema.{ColumnSchema}
use Rattle.away_trees.specs.declared.schemas.TableSchema.{TableSchema}
use Rattle.away_values.specs.declared.types.Ty.{Ty}
use Rattle.away_values.specs.declared.types.Ty.TheVariants as ty
use Rattle.call_forms.specs.declared.forms.Anf.{Anf}
use Rattle.call_forms.specs.declared.forms.Tail.{Tail}
use Rattle.call_forms.specs.Forms.{label_of, params_of}
use Rattle.call_forms.specs.TailRuns.{label_or}
use Rattle.cte_parts.specs.Trees.{working_carrying}
use Rattle.cte_template.specs.Places.{beside}
use Rattle.sql_meaning.specs.Trees.{col, item, null_of, number, select, truth}

-- the table at this place of the schema, with the names of its columns
abbrev pub from_table : ℕ → TableSchema → FromItem
from_table place t =
    roll-FromItem (record {
      source = source.Table t.name;
      alias = t.name;
      columns = decimal place ∷ map (λ (c : ColumnSchema). c.name) t.columns;
    })

-- the column that holds a parameter, behind the first, and NULL of the type where there is none
abbrev pub parameter : Ty → Option ℕ → Expr
parameter t None = null_of t
parameter t (Some n) = col 0 0 (suc n)

-- the cells of columns from the i-th on: the table's columns in the places of the entry's
-- parameters
abbrev pub parameters_at : ℕ → List ℕ → List ℕ → List Ty → List Expr
parameters_at i keys params [] = []
parameters_at i keys params (t ∷ ts) =
    parameter t (beside keys params i) ∷ parameters_at (suc i) keys params ts

-- the place of the entry's label, and one that no label has where the entry is none
abbrev pub place_of_entry : Tail → ℕ → ℕ
place_of_entry tail entry = label_or (length tail.labels) (label_of tail entry)

-- TRUE, the entry's label, the first column, the others in the places of the entry's parameters,
-- and no result
abbrev pub starting_row : Ty → Anf → Tail → ℕ → List Expr
starting_row result anf tail entry =
    let at : ℕ = place_of_entry tail entry in
    let cells : List Expr =
    parameters_at 0 (get_or tail.places at []) (params_of (slice_get anf.blocks entry)) tail.columns in
    truth true
    ∷ number (pos (suc at))
    ∷ col 0 0 0
    ∷ cells ++ (null_of result ∷ null_of ty.Text ∷ [])

-- the row of a call for each row of the table
abbrev pub calls_of_rows : Ty → Anf → Tail → ℕ → ℕ → TableSchema → Select
calls_of_rows result anf tail entry place t =
    select (starting_row result anf tail entry) (from_table place t ∷ []) None

-- SELECT away_x0, away_res, away_err FROM away_r WHERE NOT away_go ORDER BY away_x0, where so many
-- columns hold values
abbrev pub ended_calls : ℕ → ℕ → Select
ended_calls tables columns =
    roll-Select (record {
      list = map item
          (col 0 0 2 ∷ col 0 0 (suc (suc (suc columns))) ∷ col 0 0 (suc (suc (suc (suc columns)))) ∷ []);
      from = working_carrying tables 1 columns ∷ [];
      filter = Some (expr.Not (col 0 0 0));
      order = roll-Key (record { expr = col 0 0 2; descending = false }) ∷ [];
      limit = None;
    })
