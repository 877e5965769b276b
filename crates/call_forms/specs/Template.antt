-- The query of a tail form: one branch for each label, where a test is two bodies in a LATERAL
-- item, each behind a gate.
--
-- WITH RECURSIVE r(go, fn, c0, .., res, err) AS (
--   SELECT TRUE, entry, arguments, NULL, NULL
--   UNION ALL
--   SELECT s.go, .., s.err FROM r, LATERAL (BRANCH 1 UNION ALL .. BRANCH m) AS s WHERE r.go)
-- SELECT r.res, r.err FROM r WHERE NOT r.go
use Rattle.std.specs.Prelude.{
  ℕ,
  suc,
  true,
  pos,
  List,
  [],
  ◌∷◌,
  ◌++◌,
  length,
  get_or,
  slice_get,
  Some,
  None,
  decimal,
}
use Rattle.away_trees.specs.declared.queries.Col.{Col}
use Rattle.away_trees.specs.declared.queries.Expr.{Expr}
use Rattle.away_trees.specs.declared.queries.Expr.TheVariants as expr
use Rattle.away_trees.specs.declared.queries.Expr.TheViews.{roll-Recursive, roll-Query}
use Rattle.away_trees.specs.declared.queries.FromItem.{FromItem}
use Rattle.away_trees.specs.declared.queries.Query.{Query}
use Rattle.away_trees.specs.declared.queries.Select.{Select}
use Rattle.away_values.specs.declared.types.Ty.{Ty}
use Rattle.away_values.specs.declared.types.Ty.TheVariants as ty
use Rattle.away_values.specs.declared.values.Class.{Class}
use Rattle.sql_meaning.specs.Template.{last}
use Rattle.sql_meaning.specs.Trees.{number, truth, null_of, select}
use Rattle.block_forms.specs.declared.forms.Term.{Term}
use Rattle.call_forms.specs.Bodies.{Body}
use Rattle.call_forms.specs.Carrying as carrying
use Rattle.call_forms.specs.Forms.{Anf, Tail, params_of, label_of}
pub use Rattle.call_forms.specs.References.{
  refers,
  here,
  deeper,
  outside,
  no_column,
  is_not_true,
  Parts,
  gated,
  either,
  in_parts,
  cells,
}
use Rattle.call_forms.specs.Scopes.{Scope, paired}
use Rattle.call_forms.specs.TailRuns.{label_or}

-- Each definition is that of `Carrying` where rows carry no further values.

-- a column of r at a place, seen from the list of a branch: behind `go` and `fn`
abbrev pub of_row : ℕ → Col
of_row = carrying.of_row []

-- The expressions by number, the type of each name, the types of the columns, and the type of the
-- result. The type of a term's place is that of the assigned name, boolean for a test, and the
-- result's for a return.
module _ (table : List Expr) (types : ℕ → Ty) (columns : List Ty) (result : Ty) where
  -- `SELECT e` for a term, where its slots are the columns of its names
  abbrev pub let_of : ℕ → Scope Col → Ty → Term → FromItem
  let_of = carrying.let_of table

  -- FALSE, 0, NULLs, and the result and the class
  abbrev pub end_at : Expr → Expr → Parts
  end_at = carrying.end_at table types [] columns result 0

  -- TRUE, the label, its row, and no result
  abbrev pub call_at : ℕ → List Expr → Parts
  call_at = carrying.call_at table types [] columns result 0

  abbrev pub text_of : Class → Expr
  text_of = carrying.text_of

  -- all columns of item m
  abbrev pub all_of : ℕ → List Expr
  all_of = carrying.all_of table types [] columns result

  -- m items stand to the left; the references are seen from the list of the select
  abbrev pub parts : ℕ → Scope Col → ℕ → Body → Parts
  parts = carrying.parts table types [] columns result

  -- the row has the label with this number
  abbrev pub is_label : ℕ → Expr
  is_label = carrying.is_label

  -- the branch of label n, counted from 1
  abbrev pub branch : ℕ → List ℕ → List ℕ → Body → Select
  branch = carrying.branch table types [] columns result

-- the arguments in the places of the entry's parameters
abbrev pub argument_cells : (ℕ → Ty) → ℕ → List ℕ → List ℕ → List Ty → List Expr
argument_cells types i places params [] = []
argument_cells types i places params (t ∷ ts) =
    paired (λ p. expr.Param (suc p) (types p)) (null_of t) places params i
    ∷ argument_cells types (suc i) places params ts

-- ---- the query

module _
    (table : List Expr)
    (types : ℕ → Ty)
    (result : Ty)
    (anf : Anf)
    (tail : Tail)
    (entry : ℕ) where
  -- the branches of labels, numbered from n + 1
  abbrev pub branches : ℕ → List ℕ → List Select
  branches = carrying.branches table types [] result anf tail

  -- the label of the entry, counted from 0
  abbrev pub entry_place : ℕ
  entry_place = label_or (length tail.labels) (label_of tail entry)

  abbrev pub start : Select
  start =
      let arguments : List Expr = argument_cells types 0 (get_or tail.places entry_place [])
      (params_of (slice_get anf.blocks entry)) tail.columns in
      select (truth true ∷ number (pos (suc entry_place))
      ∷ arguments ++ (null_of result ∷ null_of ty.Text ∷ [])) [] None

  -- the second term, where the recursive table has the place with these digits
  abbrev pub step : List ℕ → Select
  step = carrying.step table types [] result anf tail

  abbrev pub query_with : List ℕ → Query
  query_with digits =
      roll-Query (record {
        recursive = Some (roll-Recursive (record {
          name = [];
          columns = [];
          first = start ∷ [];
          second = step digits;
        }));
        selects = last digits (length tail.columns) ∷ [];
      })

  -- over so many tables
  abbrev pub query_of : ℕ → Query
  query_of tables = query_with (decimal tables)
