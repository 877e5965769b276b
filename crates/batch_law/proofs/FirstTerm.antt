-- The first term of a query over the rows of a table gives a start for each row.
use Rattle.std.proofs.Common.{◌≡◌, ℕ, suc, ◌<◌, ◌^◌, pos, true, List, [], ◌∷◌, ◌++◌, map, length, get_or, decimal, None, Ok, refl, ap, ◌∙◌}
use Rattle.std.specs.Prelude.{slice_get, slice_index_or}
use Rattle.away_trees.specs.declared.queries.Expr.{Expr}
use Rattle.away_values.specs.declared.types.Ty.{Ty}
use Rattle.away_values.specs.declared.types.Ty.TheVariants as ty
use Rattle.away_values.specs.declared.values.Value.{Value}
use Rattle.away_values.specs.declared.values.Value.TheVariants as val
use Rattle.away_values.specs.Results.{and_then, mapped, each}
use Rattle.sql_meaning.specs.Context.{Rows, Context, at, inside, outermost}
use Rattle.sql_meaning.specs.Expressions.{values}
use Rattle.sql_meaning.specs.Meaning.{rows_of_item, rows_of_select}
use Rattle.sql_meaning.specs.Trees.{col, number, truth, null_of, table}
use Rattle.sql_meaning.proofs.SelectRows.{Is, Are, is_number, is_truth, is_null_of, is_col, none, more, rows_of, rows_of_table, extended}
use Rattle.call_forms.specs.Forms.{params_of}
use Rattle.call_forms.specs.TailRuns.{row_from}
use Rattle.cte_law.proofs.ScopesAlike.{paired_relates}
use Rattle.cte_law.proofs.Sequences.{alone}
use Rattle.cte_law.proofs.Works.{all}
use Rattle.cte_law.proofs.Worlds.{World, frame_in}
use Rattle.batch_law.specs.Batches.{start_of, column_cells, entry_place, first_of}
use Rattle.batch_law.specs.Starts.{start_row}

are_columns : (cx : Context) (row : List Value) (places params : List ℕ) (es : List Expr) (vs : List Value) → Are (inside (row ∷ []) cx) es vs
    → (i : ℕ) (columns : List Ty)
    → Are (inside (row ∷ []) cx) (column_cells i places params columns ++ es) (row_from i (λ p. at row (suc p)) places params columns ++ vs)
are_columns cx row places params es vs rest i [] = rest
are_columns cx row places params es vs rest i (t ∷ ts) =
    let there : Context = inside (row ∷ []) cx in
    more there _ _ _ _
    (paired_relates (Is there) (λ p. col 0 0 (suc p)) (λ p. at row (suc p)) (null_of t) val.Null (λ p. is_col there 0 0 (suc p)) (is_null_of there t)
    places params i)
    (are_columns cx row places params es vs rest (suc i) ts)

module _ (w : World) (small : length w.tables < 2 ^ 64) (place : ℕ) (near : place < 2 ^ 64) (args : List Value) where
  abbrev label : ℕ
  label = entry_place w.result w.anf w.tail w.goto.entry

  abbrev places : List ℕ
  places = get_or w.tail.places label []

  abbrev params : List ℕ
  params = params_of (slice_get w.anf.blocks w.goto.entry)

  abbrev the_list : List Expr
  the_list =
      truth true
      ∷ number (pos (suc label))
      ∷ col 0 0 0
      ∷ (column_cells 0 places params w.tail.columns ++ (null_of w.result ∷ null_of ty.Text ∷ []))

  abbrev cx : Context
  cx = outermost w.tables args

  abbrev read_row : List Value → List Value
  read_row row =
      val.Bool true
      ∷ val.Int (pos (suc label))
      ∷ at row 0
      ∷ (row_from 0 (λ p. at row (suc p)) places params w.tail.columns ++ (val.Null ∷ val.Null ∷ []))

  row_are : (row : List Value) → Are (inside (row ∷ []) cx) the_list (read_row row)
  row_are row =
      let there : Context = inside (row ∷ []) cx in
      let nulls = more there (null_of w.result) _ val.Null _ (is_null_of there w.result)
      (more there (null_of ty.Text) _ val.Null _ (is_null_of there ty.Text) (none there)) in
      more there (truth true) _ _ _ (is_truth there true)
      (more there (number (pos (suc label))) _ _ _ (is_number there (pos (suc label)))
      (more there (col 0 0 0) _ _ _ (is_col there 0 0 0) (are_columns cx row places params _ _ nulls 0 w.tail.columns)))

  abbrev made : List Value → List Value
  made row = start_row (frame_in w) w.anf w.tail (start_of row)

  is_start : (row : List Value) → read_row row ≡ made row
  is_start [] = refl
  is_start (x ∷ vs) = refl

  all_listed : (rows : Rows) → each (λ frame. values (inside frame cx) (all the_list)) (map (λ row. row ∷ []) rows) ≡ Ok (map made rows)
  all_listed [] = refl
  all_listed (row ∷ rows) = (λ i. and_then (((row_are row).gives ∙ ap Ok (is_start row)) i) (λ y. mapped (λ ys. y ∷ ys) (all_listed rows i)))

  abbrev the_rows : Rows
  the_rows = slice_index_or w.tables place []

  pub first_is : rows_of_select (first_of w.result w.anf w.tail w.goto.entry (decimal place)) cx ≡ Ok (map made the_rows)
  first_is =
      rows_of cx the_list (table place ∷ []) None (map (λ row. row ∷ []) the_rows) (map (λ row. row ∷ []) the_rows) (Ok (map made the_rows))
      (ap (λ x. and_then x (λ y. Ok y))
      (extended cx (rows_of_item (table place)) [] (Ok the_rows) (rows_of_table place cx [] near) ∙ alone (Ok (map (λ row. row ∷ []) the_rows))))
      refl (row_are []).single (all_listed the_rows)
