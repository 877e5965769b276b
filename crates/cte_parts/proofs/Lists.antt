-- The numbers below a number, with one more at their end.
use Rattle.std.proofs.Common.{◌≡◌, ap, ◌∙◌, ℕ, zero, suc, ◌+◌, List, [], ◌∷◌, ◌++◌, map, arith}
use Rattle.std.proofs.lemmas.List.{map-append}
use Rattle.sql_meaning.specs.Template.{count_from, below}
use Rattle.cte_parts.specs.Names.{value_names, column_name, carried_names, carried_name}

abbrev alone : ℕ → List ℕ
alone k = k ∷ []

counted : (first n : ℕ) → count_from first (suc n) ≡ count_from first n ++ ((first + n) ∷ [])
counted first zero =
    let p : first ≡ first + 0 = omega arith in
    ap alone p
counted first (suc n) =
    let p : suc first + n ≡ first + suc n = omega arith in
    ap (λ xs. first ∷ xs) (counted (suc first) n ∙ ap (λ k. count_from (suc first) n ++ alone k) p)

pub one_more_below : (n : ℕ) → below (n + 1) ≡ below n ++ (n ∷ [])
one_more_below n =
    let p : n + 1 ≡ suc n = omega arith in
    let z : 0 + n ≡ n = omega arith in
    ap below p ∙ (counted 0 n ∙ ap (λ k. below n ++ alone k) z)

pub one_more_column : (n : ℕ) → value_names (n + 1) ≡ value_names n ++ (column_name n ∷ [])
one_more_column n = ap (map column_name) (one_more_below n) ∙ map-append column_name (below n) (n ∷ [])

pub one_more_carried : (n : ℕ) → carried_names (n + 1) ≡ carried_names n ++ (carried_name n ∷ [])
one_more_carried n = ap (map carried_name) (one_more_below n) ∙ map-append carried_name (below n) (n ∷ [])
