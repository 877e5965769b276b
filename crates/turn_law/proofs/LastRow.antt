-- The last select over the rows of calls and a finished row, whatever its columns are.
use Rattle.std.proofs.Common.{◌≡◌, ℕ, suc, ◌<◌, ◌^◌, false, List, [], ◌∷◌, ◌++◌, map, length, decimal, Some, Ok, ap, refl, ◌∙◌, subst}
use Rattle.away_trees.specs.declared.queries.Expr.{Expr}
use Rattle.away_trees.specs.declared.queries.Expr.TheVariants as expr
use Rattle.away_trees.proofs.Equations as eq
use Rattle.away_values.specs.declared.values.Value.{Value}
use Rattle.away_values.specs.Operators.{negation, is_true}
use Rattle.away_values.specs.Results.{and_then, mapped}
use Rattle.sql_meaning.specs.Context.{Rows, Context, at, column, inside}
use Rattle.sql_meaning.specs.Meaning.{meaning, value, rows_of_item, rows_of_select}
use Rattle.sql_meaning.specs.Selects.{keep, keep_if}
use Rattle.sql_meaning.specs.Template.{last}
use Rattle.sql_meaning.specs.Trees.{col, table}
use Rattle.sql_meaning.proofs.Returns.{turned}
use Rattle.sql_meaning.proofs.RowPlaces.{last_table}
use Rattle.sql_meaning.proofs.SelectRows.{Are, is_col, none, more, one_row, rows_of_table, extended}
use Rattle.cte_law.proofs.Finish.{AreCalls}
use Rattle.cte_law.proofs.Sequences.{alone}
use Rattle.turn_law.proofs.RowCells.{work}

abbrev ended : Expr
ended = expr.Not (col 0 0 0)

ended_is : (cx : Context) → value ended cx ≡ Ok (negation (column cx.frames (record { level = 0; item = 0; column = 0 })))
ended_is cx = ap (λ x. x.value cx) (eq.of_not meaning (col 0 0 0)) ∙ ap (mapped negation) (is_col cx 0 0 0).gives

result_at : (row : List Value) (v c : Value) → at (row ++ (v ∷ c ∷ [])) (length row) ≡ v
result_at [] v c = refl
result_at (x ∷ row) v c = result_at row v c

class_at : (row : List Value) (v c : Value) → at (row ++ (v ∷ c ∷ [])) (suc (length row)) ≡ c
class_at [] v c = refl
class_at (x ∷ row) v c = class_at row v c

module _ (T : List Rows) (args : List Value) (small : length T < 2 ^ 64) (n : ℕ) (row : List Value) (v c : Value) where
  abbrev over : List Value
  over = work false n row v c

  keeps_last : (cx : Context) (calls : Rows) → AreCalls calls
      → keep (λ frame. value ended (inside frame cx)) (map (λ r. r ∷ []) (calls ++ over ∷ [])) ≡ Ok ((over ∷ []) ∷ [])
  keeps_last cx [] h = ap (λ o. and_then o (λ x. Ok (keep_if (over ∷ []) (is_true x) []))) (ended_is (inside (over ∷ []) cx))
  keeps_last cx (r ∷ calls) h =
      (λ i. and_then ((ended_is (inside (r ∷ []) cx) ∙ ap (λ x. Ok (negation x)) h.0) i)
      (λ x. mapped (keep_if (r ∷ []) (is_true x)) (keeps_last cx calls h.1 i)))

  pub last_row : (calls : Rows) → AreCalls calls
      → rows_of_select (last (decimal (length T)) (length row)) (turned T args (calls ++ over ∷ [])) ≡ Ok ((v ∷ c ∷ []) ∷ [])
  last_row calls h =
      let all_rows : Rows = calls ++ over ∷ [] in
      let cx : Context = turned T args all_rows in
      let there : Context = inside (over ∷ []) cx in
      let m : ℕ = length row in
      let cells = more there (col 0 0 (suc (suc m))) _ _ _ (is_col there 0 0 (suc (suc m)))
      (more there (col 0 0 (suc (suc (suc m)))) _ _ _ (is_col there 0 0 (suc (suc (suc m)))) (none there)) in
      let from = rows_of_table (length T) cx [] small ∙ ap Ok (last_table T all_rows) in
      one_row cx _ (table (length T) ∷ []) (Some ended) (map (λ r. r ∷ []) all_rows) (over ∷ []) (v ∷ c ∷ [])
      (ap (λ x. and_then x (λ y. Ok y))
      (extended cx (rows_of_item (table (length T))) [] (Ok all_rows) from ∙ alone (Ok (map (λ r. r ∷ []) all_rows))))
      (keeps_last cx calls h)
      (subst (λ vs. Are there (col 0 0 (suc (suc m)) ∷ col 0 0 (suc (suc (suc m))) ∷ []) vs) (λ i. result_at row v c i ∷ class_at row v c i ∷ []) cells)
