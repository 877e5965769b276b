-- The last select over the rows of calls and a finished row.
use Rattle.std.proofs.Common.{◌≡◌, ℕ, suc, ◌<◌, ◌^◌, true, List, [], ◌∷◌, ◌++◌, map, length, decimal, Some, Ok, ap, ◌∙◌, subst}
use Rattle.away_trees.specs.declared.queries.Expr.{Expr}
use Rattle.away_trees.specs.declared.queries.Expr.TheVariants as expr
use Rattle.away_trees.proofs.Equations as eq
use Rattle.away_values.specs.declared.types.Ty.{Ty}
use Rattle.away_values.specs.declared.values.Value.{Value}
use Rattle.away_values.specs.declared.values.Value.TheVariants as val
use Rattle.away_values.specs.Operators.{negation, is_true}
use Rattle.away_values.specs.Results.{and_then, mapped}
use Rattle.sql_meaning.specs.Context.{Rows, Context, at, column, inside}
use Rattle.sql_meaning.specs.Meaning.{meaning, value, rows_of_item, rows_of_select}
use Rattle.sql_meaning.specs.Selects.{keep, keep_if}
use Rattle.sql_meaning.specs.Template.{last}
use Rattle.sql_meaning.specs.Trees.{col, table}
use Rattle.sql_meaning.proofs.Returns.{turned}
use Rattle.sql_meaning.proofs.RowPlaces.{last_table, at_value, after_value}
use Rattle.sql_meaning.proofs.SelectRows.{Are, is_col, none, more, one_row, rows_of_table, extended}
use Rattle.cte_law.proofs.Sequences.{alone}
use Rattle.cte_law.proofs.WorkingRows.{end_row}

-- rows of calls: their first column is true
abbrev pub AreCalls : Rows → Type 0
AreCalls [] = Unit {0}
AreCalls (row ∷ rows) = (at row 0 ≡ val.Bool true) × AreCalls rows

pub one_call_more : (rows : Rows) (row : List Value) → AreCalls rows → at row 0 ≡ val.Bool true → AreCalls (rows ++ row ∷ [])
one_call_more [] row h k = (k, tt)
one_call_more (x ∷ rows) row h k = (h.0, one_call_more rows row h.1 k)

abbrev ended : Expr
ended = expr.Not (col 0 0 0)

ended_is : (cx : Context) → value ended cx ≡ Ok (negation (column cx.frames (record { level = 0; item = 0; column = 0 })))
ended_is cx = ap (λ x. x.value cx) (eq.of_not meaning (col 0 0 0)) ∙ ap (mapped negation) (is_col cx 0 0 0).gives

module _ (columns : List Ty) (T : List Rows) (args : List Value) (small : length T < 2 ^ 64) where
  keeps_last : (cx : Context) (calls : Rows) (v c : Value) → AreCalls calls
      → keep (λ frame. value ended (inside frame cx)) (map (λ row. row ∷ []) (calls ++ end_row [] columns v c ∷ [])) ≡ Ok ((end_row [] columns v c ∷ []) ∷ [])
  keeps_last cx [] v c h =
      ap (λ o. and_then o (λ x. Ok (keep_if (end_row [] columns v c ∷ []) (is_true x) []))) (ended_is (inside (end_row [] columns v c ∷ []) cx))
  keeps_last cx (row ∷ calls) v c h =
      (λ i. and_then ((ended_is (inside (row ∷ []) cx) ∙ ap (λ x. Ok (negation x)) h.0) i)
      (λ x. mapped (keep_if (row ∷ []) (is_true x)) (keeps_last cx calls v c h.1 i)))

  pub last_rows : (calls : Rows) (v c : Value) → AreCalls calls
      → rows_of_select (last (decimal (length T)) (length columns)) (turned T args (calls ++ end_row [] columns v c ∷ [])) ≡ Ok ((v ∷ c ∷ []) ∷ [])
  last_rows calls v c h =
      let all_rows : Rows = calls ++ end_row [] columns v c ∷ [] in
      let cx : Context = turned T args all_rows in
      let there : Context = inside (end_row [] columns v c ∷ []) cx in
      let n : ℕ = length columns in
      let cells = more there (col 0 0 (suc (suc n))) _ _ _ (is_col there 0 0 (suc (suc n)))
      (more there (col 0 0 (suc (suc (suc n)))) _ _ _ (is_col there 0 0 (suc (suc (suc n)))) (none there)) in
      let from = rows_of_table (length T) cx [] small ∙ ap Ok (last_table T all_rows) in
      one_row cx _ (table (length T) ∷ []) (Some ended) (map (λ row. row ∷ []) all_rows) (end_row [] columns v c ∷ []) (v ∷ c ∷ [])
      (ap (λ x. and_then x (λ y. Ok y))
      (extended cx (rows_of_item (table (length T))) [] (Ok all_rows) from ∙ alone (Ok (map (λ row. row ∷ []) all_rows))))
      (keeps_last cx calls v c h)
      (subst (λ vs. Are there (col 0 0 (suc (suc n)) ∷ col 0 0 (suc (suc (suc n))) ∷ []) vs) (λ i. at_value columns v c i ∷ after_value columns v c i ∷ []) cells)
