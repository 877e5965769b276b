-- A list from a place on.
use Rattle.std.proofs.Common.{◌≡◌, ℕ, zero, suc, ◌+◌, ◌<◌, ◌≤◌, List, [], ◌∷◌, length, get_or, drop, refl, ap, ◌∙◌, arith}

pub drop_from : {X : Type 0} (xs : List X) (i : ℕ) (d : X) → i < length xs → drop i xs ≡ get_or xs i d ∷ drop (i + 1) xs
drop_from [] i d lt = absurd (omega arith)
drop_from (x ∷ xs) zero d lt = refl
drop_from (x ∷ xs) (suc i) d lt =
    drop_from xs i d (omega arith) ∙ ap (λ j. get_or xs i d ∷ drop j (x ∷ xs)) (let q : suc (i + 1) ≡ suc i + 1 = omega arith in q)

pub drop_past : {X : Type 0} (xs : List X) (i : ℕ) → length xs ≤ i → drop i xs ≡ []
drop_past [] zero le = refl
drop_past [] (suc i) le = refl
drop_past (x ∷ xs) zero le = absurd (omega arith)
drop_past (x ∷ xs) (suc i) le = drop_past xs i (omega arith)
