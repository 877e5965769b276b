-- The cells of a row, along the loops that write them.
use Rattle.std.proofs.Common.{◌≡◌, refl, ap, sym, ◌∙◌, ℕ, zero, suc, ◌+◌, ◌<◌, ◌≤◌, Bool, true, false, if◌then◌else◌, List, [], ◌∷◌, ◌++◌, map, length, drop, get_or, Some, arith, append_assoc, append-nil}
use Rattle.std.specs.Prelude.{nat_eq}
use Rattle.std.proofs.lemmas.List.{map-append, at_drop_more}
use Rattle.away_trees.specs.declared.queries.Expr.{Expr}
use Rattle.away_values.specs.declared.types.Ty.{Ty}
use Rattle.call_forms.specs.Scopes.{Scope, paired}
use Rattle.cte_parts.proofs.Lists.{one_more_below}
use Rattle.sql_meaning.specs.Template.{below, count_from}
use Rattle.sql_meaning.specs.Trees.{col, null_of}
use Rattle.turn_template.specs.TurnTemplate.{Ref, passed, choices}
use Rattle.turn_terms.specs.declared.writer.Writer.{Writer}
use Rattle.turn_query.specs.Filled.{cell_of, kept, row_cells}
use Rattle.turn_query.proofs.TwoLists.{at_second_end}

pub one_more_column : (i : ℕ) → map (col 0 0) (below (i + 1)) ≡ map (col 0 0) (below i) ++ (col 0 0 i ∷ [])
one_more_column i = ap (map (col 0 0)) (one_more_below i) ∙ map-append (col 0 0) (below i) (i ∷ [])

-- ---- the columns of the row that are kept

counted : (first n : ℕ) → count_from first (suc n) ≡ count_from first n ++ ((first + n) ∷ [])
counted first zero =
    let p : first ≡ first + 0 = omega arith in
    ap (λ k. k ∷ []) p
counted first (suc n) =
    let p : suc first + n ≡ first + suc n = omega arith in
    ap (λ xs. first ∷ xs) (counted (suc first) n ∙ ap (λ k. count_from (suc first) n ++ (k ∷ [])) p)

pub one_more_kept : (i : ℕ) → kept (i + 1) ≡ kept i ++ (col 0 0 (i + 2) ∷ [])
one_more_kept i =
    let next : i + 1 ≡ suc i = omega arith in
    let at : 2 + i ≡ i + 2 = omega arith in
    ap kept next
    ∙ (ap (map (col 0 0)) (counted 2 i)
    ∙ (map-append (col 0 0) (count_from 2 i) ((2 + i) ∷ []) ∙ ap (λ k. kept i ++ (col 0 0 k ∷ [])) at))

-- ---- the row of a call

by_key : (refs : Scope Ref) (t : Ty) (ks ns : List ℕ) (n i : ℕ) (b : Bool) → cell_of refs t (passed ks ns i) ≡ paired (λ n. refs n 0) (null_of t) ks ns i
    → cell_of refs t (if b then Some n else passed ks ns i) ≡ (if b then refs n 0 else paired (λ n. refs n 0) (null_of t) ks ns i)
by_key refs t ks ns n i true h = refl
by_key refs t ks ns n i false h = h

cell_is : (refs : Scope Ref) (t : Ty) (places args : List ℕ) (i : ℕ)
    → cell_of refs t (passed places args i) ≡ paired (λ n. refs n 0) (null_of t) places args i
cell_is refs t [] args i = refl
cell_is refs t (k ∷ ks) [] i = refl
cell_is refs t (k ∷ ks) (n ∷ ns) i = by_key refs t ks ns n i (nat_eq k i) (cell_is refs t ks ns i)

module _ (w : Writer) (refs : Scope Ref) (places args : List ℕ) (columns : List Ty) where
  pub cells_step : (i k : ℕ) (t : Ty) (whole list new : List Expr) (e : Expr) → i < length columns → list ++ row_cells w i refs places args (drop i columns) ≡ whole
      → k ≡ i → e ≡ cell_of refs (get_or columns i t) (passed places args k) → new ≡ list ++ (e ∷ [])
      → new ++ row_cells w (i + 1) refs places args (drop (i + 1) columns) ≡ whole
  cells_step i k t whole list new e lt so_far here is added =
      let one_on : i + 1 ≡ suc i = omega arith in
      let rest = row_cells w (suc i) refs places args (drop (i + 1) columns) in
      let same : e ≡ paired (λ n. refs n 0) (null_of (get_or columns i t)) places args i =
      is ∙ (ap (λ n. cell_of refs (get_or columns i t) (passed places args n)) here ∙ cell_is refs (get_or columns i t) places args i) in
      ap (λ n. new ++ row_cells w n refs places args (drop (i + 1) columns)) one_on
      ∙ (ap (λ l. l ++ rest) added
      ∙ (append_assoc list (e ∷ []) rest
      ∙ (ap (λ c. list ++ (c ∷ rest)) same
      ∙ (ap (λ l. list ++ l) (sym (at_drop_more (λ l. row_cells w i refs places args l) columns i t lt)) ∙ so_far))))

-- ---- what a condition chooses

module _ (same : Expr → Expr → Bool) (c : Expr) where
  no_others : (firsts : List Expr) → choices same c firsts [] ≡ []
  no_others [] = refl
  no_others (a ∷ firsts) = refl

  pub choices_short : (firsts seconds : List Expr) (i : ℕ) (whole list : List Expr) → length seconds ≤ i → list ++ choices same c (drop i firsts) (drop i seconds) ≡ whole → list ≡ whole
  choices_short firsts seconds i whole list h so_far =
      sym (append-nil list) ∙ (ap (λ l. list ++ l) (sym (at_second_end (choices same c) firsts seconds i h ∙ no_others (drop i firsts))) ∙ so_far)
