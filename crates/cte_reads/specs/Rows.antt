-- The rows that bodies give, where what is passed is references.
use Rattle.std.specs.Prelude.{
  ℕ,
  suc,
  true,
  false,
  pos,
  List,
  [],
  ◌∷◌,
  ◌++◌,
  map,
  Option,
  Some,
  None,
}
use Rattle.away_trees.specs.declared.queries.Expr.{Expr}
use Rattle.away_trees.specs.declared.queries.Expr.TheVariants as expr
use Rattle.away_values.specs.declared.types.Ty.{Ty}
use Rattle.away_values.specs.declared.types.Ty.TheVariants as ty
use Rattle.away_values.specs.declared.values.Class.{Class}
use Rattle.sql_meaning.specs.Trees.{col, cast_to, number, truth, null_of}
use Rattle.cte_reads.specs.declared.scope.Ref.{Ref}
use Rattle.cte_reads.specs.References.{lookup, col_at}

-- the reference, or NULL of the column's type
abbrev pub cell : ℕ → Option Ref → Ty → Expr
cell out None t = null_of t
cell out (Some r) t = expr.Column (col_at out r)

-- the references in a label's places, from place i on, seen from a select that `out` selects of the
-- branch enclose
abbrev pub cells_at : ℕ → ℕ → List ℕ → List Ref → List Ty → List Expr
cells_at out i places refs [] = []
cells_at out i places refs (t ∷ ts) = cell out (lookup places refs i) t ∷ cells_at out (suc i) places refs ts

-- TRUE, the label, its row, and no result
abbrev pub call_list : ℕ → List Expr → Ty → List Expr
call_list label row result = truth true ∷ number (pos (suc label)) ∷ (row ++ (null_of result ∷ null_of ty.Text ∷ []))

-- FALSE, 0 and NULLs
abbrev pub begin_list : List Ty → List Expr
begin_list columns = truth false ∷ number (pos 0) ∷ map null_of columns

-- the same, and the result and the class
abbrev pub end_list : List Ty → Expr → Expr → List Expr
end_list columns value class = truth false ∷ number (pos 0) ∷ (map null_of columns ++ (value ∷ class ∷ []))

abbrev pub class_text : Class → Expr
class_text c = cast_to ty.Text (expr.Str c.code)

-- the row of a value that an item of the select gives
abbrev pub value_list : List Ty → ℕ → List Expr
value_list columns item = end_list columns (col 0 item 0) (null_of ty.Text)

-- the row of a fault
abbrev pub fault_list : List Ty → Ty → Class → List Expr
fault_list columns result class = end_list columns (null_of result) (class_text class)
