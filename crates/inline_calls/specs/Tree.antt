-- The query over one recursive table, by the parts in which it is built: of a select with slots in
-- the places of its calls, and of the forms.
use Rattle.std.specs.Prelude.{
  ℕ,
  suc,
  List,
  [],
  ◌∷◌,
  length,
  get_or,
  Option,
  Some,
  None,
}
use Rattle.away_trees.specs.declared.queries.Expr.{Expr}
use Rattle.away_trees.specs.declared.queries.Expr.TheVariants as expr
use Rattle.away_trees.specs.declared.queries.Expr.TheViews.{roll-Query}
use Rattle.away_trees.specs.declared.queries.FromItem.{FromItem}
use Rattle.away_trees.specs.declared.queries.Query.{Query}
use Rattle.away_trees.specs.declared.queries.Recursive.{Recursive}
use Rattle.away_trees.specs.declared.queries.Select.{Select}
use Rattle.away_trees.specs.declared.statements.Function.{Function}
use Rattle.away_types.specs.declared.slots.Slot.{Slot}
use Rattle.away_values.specs.declared.types.Ty.{Ty}
use Rattle.block_forms.specs.declared.forms.Goto.{Goto}
use Rattle.block_forms.specs.declared.forms.Ssa.{Ssa}
use Rattle.call_forms.specs.declared.forms.Anf.{Anf}
use Rattle.call_forms.specs.declared.forms.Tail.{Tail}
use Rattle.cte_parts.specs.Trees.{working_carrying}
use Rattle.cte_template.specs.CarriedTree.{carried_table}
use Rattle.cte_template.specs.Making.{making_of}
use Rattle.cte_template.specs.Places.{beside}
use Rattle.plsql_meaning.specs.Equivalent.{types_of}
use Rattle.sql_meaning.specs.Trees.{null_of}
use Rattle.inline_law.specs.Filled.{CallingSelect}
use Rattle.inline_law.specs.Written.{
  carried_types,
  filled_select,
  starts_of_calls,
}
use Rattle.inline_calls.specs.declared.starts.Starting.{Starting}

-- ---- the first term

-- the argument that stands beside a column's place, or NULL of the column's type
abbrev pub cell : List Expr → Ty → Option ℕ → Expr
cell es t None = null_of t
cell es t (Some p) = get_or es p expr.Null

abbrev pub cells : List Expr → ℕ → List ℕ → List ℕ → List Ty → List Expr
cells es i keys params [] = []
cells es i keys params (t ∷ ts) =
    cell es t (beside keys params i) ∷ cells es (suc i) keys params ts

abbrev pub starts : Starting → Select → ℕ → List (List Expr) → List Select
starts w = starts_of_calls w.params.now w.result w.anf.now w.tail.now w.entry

-- ---- the whole

module _ (f : Function) (slots : List Slot) (tables : ℕ) (goto : Goto) (ssa : Ssa)
    (anf : Anf) (tail : Tail) where
  -- the recursive table of the calls of a select, with these types of parameters and of what is
  -- carried
  abbrev pub recursive_part : List Ty → List Ty → CallingSelect → Recursive
  recursive_part params carried c =
      carried_table (making_of f slots ssa anf tail) carried
      (starts_of_calls params f.result anf tail goto.entry c.select 1 c.calls) tables

  -- the recursive table in a subquery
  abbrev pub recursive_item : FromItem
  recursive_item =
      working_carrying tables (length (carried_types (types_of f))) (length tail.columns)

  -- the tree with the names of the recursive table
  abbrev pub tree_of : CallingSelect → Query
  tree_of c =
      roll-Query (record {
        recursive = Some (recursive_part (types_of f) (carried_types (types_of f)) c);
        selects = filled_select recursive_item (length tail.columns) c ∷ [];
      })
