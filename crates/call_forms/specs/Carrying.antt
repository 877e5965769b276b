-- The second term of a tail form's query where each row of the recursive table carries further
-- values: their columns stand behind `go` and `fn`, and each row that a branch gives has those of
-- the row that it comes from.
use Rattle.std.specs.Prelude.{
  ℕ,
  suc,
  true,
  false,
  pos,
  List,
  [],
  ◌∷◌,
  ◌++◌,
  map,
  length,
  get_or,
  slice_get,
  Some,
  None,
  decimal,
}
use Rattle.away_trees.specs.declared.queries.Col.{Col}
use Rattle.away_trees.specs.declared.queries.Expr.{Expr}
use Rattle.away_trees.specs.declared.queries.Expr.TheVariants as expr
use Rattle.away_trees.specs.declared.queries.Expr.TheViews.{roll-Recursive, roll-Query}
use Rattle.away_trees.specs.declared.queries.FromItem.{FromItem}
use Rattle.away_trees.specs.declared.queries.Query.{Query}
use Rattle.away_trees.specs.declared.queries.Recursive.{Recursive}
use Rattle.away_trees.specs.declared.queries.Select.{Select}
use Rattle.away_values.specs.declared.operators.CmpOp.TheVariants as cmp
use Rattle.away_values.specs.declared.types.Ty.{Ty}
use Rattle.away_values.specs.declared.types.Ty.TheVariants as ty
use Rattle.away_values.specs.declared.values.Class.{Class}
use Rattle.sql_meaning.specs.Placed.{placed_at}
use Rattle.sql_meaning.specs.Reads.{slots_of}
use Rattle.sql_meaning.specs.Template.{below, let_item}
use Rattle.sql_meaning.specs.Trees.{col, cast_to, number, truth, null_of, lateral, table_by, select}
use Rattle.block_forms.specs.declared.forms.Term.{Term}
use Rattle.call_forms.specs.Bodies.{
  Body,
  sets,
  enters,
  picks,
  returns,
  fails,
  calls,
  endless,
  body_of,
}
use Rattle.call_forms.specs.Forms.{Anf, Tail, params_of}
use Rattle.call_forms.specs.References.{
  refers,
  here,
  deeper,
  outside,
  no_column,
  is_not_true,
  Parts,
  gated,
  either,
  in_parts,
  cells,
}
use Rattle.call_forms.specs.Scopes.{Scope, paired}

-- the columns of r from a place on, one for each type, seen from `out` selects inside a branch
abbrev pub carried_from : ℕ → ℕ → List Ty → List Expr
carried_from out place [] = []
carried_from out place (t ∷ ts) = col (suc out) 0 place ∷ carried_from out (suc place) ts

-- a place behind as many columns as there are types
abbrev pub behind : List Ty → ℕ → ℕ
behind [] place = place
behind (t ∷ ts) place = suc (behind ts place)

-- a column of r at a place behind the carried ones, seen from the list of a branch
abbrev pub of_row : List Ty → ℕ → Col
of_row carried place = record { level = 1; item = 0; column = suc (suc (behind carried place)) }

-- `SELECT e` for a term, where its slots are the columns of its names
abbrev pub let_of : List Expr → ℕ → Scope Col → Ty → Term → FromItem
let_of table out refs t u =
    let e : Expr = get_or table u.expr expr.Null in
    let_item (placed_at t (paired (outside refs) (deeper (no_column out)) (slots_of e) u.names) e)

-- a class of SQLSTATE as a value of type text
abbrev pub text_of : Class → Expr
text_of c = cast_to ty.Text (expr.Str c.code)

-- the row has the label with this number
abbrev pub is_label : ℕ → Expr
is_label n = expr.Compare cmp.Eq (col 2 0 1) (number (pos n))

-- The expressions by number, the type of each name, the types of the carried columns, the types of
-- the other columns, and the type of the result. The type of a term's place is that of the assigned
-- name, boolean for a test, and the result's for a return.
module _ (table : List Expr) (types : ℕ → Ty) (carried columns : List Ty) (result : Ty) where
  -- FALSE, 0, the carried values, NULLs, and the result and the class
  abbrev pub end_at : ℕ → Expr → Expr → Parts
  end_at out value class = record {
    items = [];
    list =
        truth false
        ∷ number (pos 0)
        ∷ (carried_from out 2 carried ++ (map null_of columns ++ (value ∷ class ∷ [])));
  }

  -- TRUE, the label, the carried values, its row, and no result
  abbrev pub call_at : ℕ → ℕ → List Expr → Parts
  call_at out label row = record {
    items = [];
    list =
        truth true
        ∷ number (pos (suc label))
        ∷ (carried_from out 2 carried ++ (row ++ (null_of result ∷ null_of ty.Text ∷ [])));
  }

  -- all columns of item m
  abbrev pub all_of : ℕ → List Expr
  all_of m = map (col 0 m) (below (suc (suc (suc (suc (length (carried ++ columns)))))))

  -- m items stand to the left; the references are seen from the list of the select
  abbrev pub parts : ℕ → Scope Col → ℕ → Body → Parts
  parts out refs m (sets n t x) =
      in_parts (let_of table out refs (types n) t) (parts out (refers n (here m 0) refs) (suc m) x)
  parts out refs m (enters params args x) = parts out (paired refs (no_column out) params args) m x
  parts out refs m (picks t x y) =
      record {
        items =
            let_of table out refs ty.Boolean t
            ∷ either (gated (col 2 m 0) (parts (suc out) (outside refs) 1 x))
            (gated (is_not_true (col 2 m 0)) (parts (suc out) (outside refs) 1 y))
            ∷ [];
        list = all_of (suc m);
      }
  parts out refs m (returns t) =
      in_parts (let_of table out refs result t) (end_at out (col 0 m 0) (null_of ty.Text))
  parts out refs m (fails c) = end_at out (null_of result) (text_of c)
  parts out refs m (calls label places args) =
      call_at out label (cells 0 refs places args columns)
  parts out refs m endless = end_at out (null_of result) (null_of ty.Text)

  -- the branch of label n, counted from 1
  abbrev pub branch : ℕ → List ℕ → List ℕ → Body → Select
  branch n params places x =
      gated (is_label n) (parts 0 (paired (of_row carried) (no_column 0) params places) 1 x)

module _
    (table : List Expr)
    (types : ℕ → Ty)
    (carried : List Ty)
    (result : Ty)
    (anf : Anf)
    (tail : Tail) where
  -- the branches of labels, numbered from n + 1
  abbrev pub branches : ℕ → List ℕ → List Select
  branches n [] = []
  branches n (b ∷ bs) =
      branch table types carried tail.columns result (suc n) (params_of (slice_get anf.blocks b))
      (get_or tail.places n []) (body_of anf tail b) ∷ branches (suc n) bs

  -- the second term, where the recursive table has the place with these digits
  abbrev pub step : List ℕ → Select
  step digits =
      select (all_of table types carried tail.columns result 1)
      (table_by digits
      ∷ lateral (roll-Query (record { recursive = None; selects = branches 0 tail.labels }))
      ∷ []) (Some (col 0 0 0))

  -- the recursive part after a first term
  abbrev pub part_with : List Select → List ℕ → Recursive
  part_with first digits =
      roll-Recursive (record { name = []; columns = []; first = first; second = step digits })

  -- over so many tables
  abbrev pub part_of : List Select → ℕ → Recursive
  part_of first tables = part_with first (decimal tables)

-- a query of a recursive part alone and these selects
abbrev pub with_part : Recursive → List Select → Query
with_part part selects = roll-Query (record { recursive = Some part; selects = selects })
