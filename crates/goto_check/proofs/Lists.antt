-- A list from a place on.
use Rattle.std.proofs.Common.{◌≡◌, ℕ, zero, suc, ◌+◌, ◌<◌, ◌-◌, ◌≤◌, List, [], ◌∷◌, length, get_or, take, drop, refl, sym, ap, ◌∙◌, arith}
use Rattle.std.proofs.lemmas.List.{take_rest}

-- by its element there and the rest
pub drop_here : {X : Type 0} (xs : List X) (i : ℕ) (x : X) → i < length xs → x ≡ get_or xs i x → drop i xs ≡ x ∷ drop (i + 1) xs
drop_here [] i x lt e = absurd (omega arith)
drop_here (y ∷ ys) zero x lt e = ap (λ z. z ∷ ys) (sym e)
drop_here (y ∷ ys) (suc i) x lt e = drop_here ys i x (omega arith) e ∙ ap (λ j. x ∷ drop j (y ∷ ys)) (let q : suc (i + 1) ≡ suc i + 1 = omega arith in q)

pub drop_past : {X : Type 0} (xs : List X) (i : ℕ) → length xs ≤ i → drop i xs ≡ []
drop_past [] zero le = refl
drop_past [] (suc i) le = refl
drop_past (x ∷ xs) zero le = absurd (omega arith)
drop_past (x ∷ xs) (suc i) le = drop_past xs i (omega arith)

-- by its first element and the rest
pub first_rest : {X : Type 0} (xs : List X) (x : X) → 1 ≤ length xs → x ≡ get_or xs 0 x → xs ≡ x ∷ take (length xs - 1) (drop 1 xs)
first_rest [] x lt e = absurd (omega arith)
first_rest (y ∷ ys) x lt e = λ i. sym e i ∷ sym (take_rest (y ∷ ys) 1) i

pub is_nil : {X : Type 0} (xs : List X) → length xs < 1 → xs ≡ []
is_nil [] h = refl
is_nil (x ∷ xs) h = absurd (omega arith)
