-- The numbers below a number, with one more at their end.
use Rattle.std.proofs.Common.{◌≡◌, ap, ◌∙◌, ℕ, zero, suc, ◌+◌, List, [], ◌∷◌, ◌++◌, map, arith}
use Rattle.std.proofs.lemmas.List.{map-append}
use Rattle.away_trees.specs.declared.queries.Select.{Select}
use Rattle.sql_meaning.specs.Template.{count_from, below}
use Rattle.away_values.specs.declared.types.Ty.{Ty}
use Rattle.select_into.specs.Entries.{pick_entry}
use Rattle.select_into.specs.Wrapped.{value_name, value_names}

abbrev alone : ℕ → List ℕ
alone k = k ∷ []

counted : (first n : ℕ) → count_from first (suc n) ≡ count_from first n ++ ((first + n) ∷ [])
counted first zero =
    let p : first ≡ first + 0 = omega arith in
    ap alone p
counted first (suc n) =
    let p : suc first + n ≡ first + suc n = omega arith in
    ap (λ xs. first ∷ xs) (counted (suc first) n ∙ ap (λ k. count_from (suc first) n ++ alone k) p)

pub one_more_below : (n : ℕ) → below (n + 1) ≡ below n ++ (n ∷ [])
one_more_below n =
    let p : n + 1 ≡ suc n = omega arith in
    let z : 0 + n ≡ n = omega arith in
    ap below p ∙ (counted 0 n ∙ ap (λ k. below n ++ alone k) z)

pub one_more_name : (n : ℕ) → value_names (n + 1) ≡ value_names n ++ (value_name n ∷ [])
one_more_name n = ap (map value_name) (one_more_below n) ∙ map-append value_name (below n) (n ∷ [])

pub one_more_pick : (types : List Ty) (q : Select) (n : ℕ) → map (pick_entry types q) (below (n + 1)) ≡ map (pick_entry types q) (below n) ++ (pick_entry types q n ∷ [])
one_more_pick types q n = ap (map (pick_entry types q)) (one_more_below n) ∙ map-append (pick_entry types q) (below n) (n ∷ [])
