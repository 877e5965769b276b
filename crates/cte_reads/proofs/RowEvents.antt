-- The events of the rows that bodies give.
use Rattle.std.proofs.Common.{◌≡◌, ℕ, suc, true, false, pos, ◌+◌, ◌<◌, ◌≤◌, List, [], ◌∷◌, ◌++◌, length, get_or, drop, map, Option, refl, sym, ap, ◌∙◌, arith}
use Rattle.std.proofs.lemmas.List.{drop_more}
use Rattle.away_trees.specs.declared.queries.Expr.{Expr}
use Rattle.away_values.specs.declared.types.Ty.{Ty}
use Rattle.away_values.specs.declared.types.Ty.TheVariants as ty
use Rattle.tree_events.specs.Events.{Events, Put, row}
use Rattle.sql_meaning.specs.Trees.{number, truth, null_of}
use Rattle.cte_reads.specs.Puts.{expr_put, exprs_put}
use Rattle.cte_reads.specs.References.{lookup}
use Rattle.cte_reads.specs.Rows.{cell, cells_at, call_list, begin_list, end_list}
use Rattle.cte_reads.specs.declared.scope.Ref.{Ref}
use Rattle.cte_reads.proofs.RowsRead.{nothing_behind}

pub row_append : {X : Type 0} (f : X → Put) (xs ys : List X) (rest : Events) → row f xs (row f ys rest) ≡ row f (xs ++ ys) rest
row_append f [] ys rest = refl
row_append f (x ∷ xs) ys rest = ap (f x) (row_append f xs ys rest)

pub end_events : (columns : List Ty) (value class : Expr) (rest : Events) → exprs_put (begin_list columns) (expr_put value (expr_put class rest)) ≡ exprs_put (end_list columns value class) rest
end_events columns value class rest =
    ap (λ z. expr_put (truth false) (expr_put (number (pos 0)) z)) (row_append expr_put (map null_of columns) (value ∷ class ∷ []) rest)

pub call_events : (label : ℕ) (cells : List Expr) (result : Ty) (rest : Events)
    → expr_put (truth true) (expr_put (number (pos (suc label))) (exprs_put cells (expr_put (null_of result) (expr_put (null_of ty.Text) rest)))) ≡ exprs_put (call_list label cells result) rest
call_events label cells result rest =
    ap (λ z. expr_put (truth true) (expr_put (number (pos (suc label))) z)) (row_append expr_put cells (null_of result ∷ null_of ty.Text ∷ []) rest)

module _ (out : ℕ) (places : List ℕ) (refs : List Ref) (columns : List Ty) where
  -- what is left of a call's row from column i on
  abbrev pub cells_from : ℕ → List Expr
  cells_from i = cells_at out i places refs (drop i columns)

  pub cells_next : (i : ℕ) (d : Ty) (found : Option Ref) → i < length columns → found ≡ lookup places refs i → (rest : Events)
      → expr_put (cell out found (get_or columns i d)) (exprs_put (cells_from (i + 1)) rest) ≡ exprs_put (cells_from i) rest
  cells_next i d found lt e rest =
      let next : suc i ≡ i + 1 = omega arith in
      ap (λ f. expr_put (cell out f (get_or columns i d)) (exprs_put (cells_from (i + 1)) rest)) e
      ∙ (ap (λ j. expr_put (cell out (lookup places refs i) (get_or columns i d)) (exprs_put (cells_at out j places refs (drop (i + 1) columns)) rest)) (sym next)
      ∙ ap (λ l. exprs_put (cells_at out i places refs l) rest) (sym (drop_more columns i d lt)))

  pub cells_over : (i : ℕ) → length columns ≤ i → (rest : Events) → rest ≡ exprs_put (cells_from i) rest
  cells_over i le rest = ap (λ l. exprs_put (cells_at out i places refs l) rest) (sym (nothing_behind columns i le))
