-- What holds of each element of a list, from its first element on.
use Rattle.std.proofs.Common.{◌≡◌, ◌≢◌, ℕ, zero, suc, ◌<◌, List, [], ◌∷◌, Some, sym, ◌∙◌, subst, arith}
use Rattle.std.specs.Prelude.{slice_get}
use Rattle.std.proofs.lemmas.Option.{same_Some}
use Rattle.block_forms.specs.Places.{Each, EachAt, EachPair, Distinct}
use Rattle.call_forms.specs.Called.{itself}

pub no_elements : {X : Type 0} (P : ℕ → X → Type 0) → EachAt P []
no_elements P i x e = absurd (cc)

pub first_element : {X : Type 0} (P : ℕ → X → Type 0) (x : X) (xs : List X) → P 0 x → EachAt (λ i. P (suc i)) xs → EachAt P (x ∷ xs)
first_element P x xs here rest zero y e = subst (P 0) (same_Some x y e) here
first_element P x xs here rest (suc i) y e = rest i y e

pub no_pairs : {X Y : Type 0} (P : ℕ → X → Y → Type 0) (ys : List Y) → EachPair P [] ys
no_pairs P ys i x y e e' = absurd (cc)

pub first_pair : {X Y : Type 0} (P : ℕ → X → Y → Type 0) (x : X) (y : Y) (xs : List X) (ys : List Y) → P 0 x y → EachPair (λ i. P (suc i)) xs ys
    → EachPair P (x ∷ xs) (y ∷ ys)
first_pair P x y xs ys here rest zero x' y' e e' = subst (λ x. P 0 x y') (same_Some x x' e) (subst (P 0 x) (same_Some y y' e') here)
first_pair P x y xs ys here rest (suc i) x' y' e e' = rest i x' y' e e'

-- ---- distinct numbers

pub none_distinct : Distinct itself []
none_distinct i x e = absurd (cc)

pub one_more_distinct : (x : ℕ) (xs : List ℕ) → Each (λ y. y ≢ x) xs → Distinct itself xs → Distinct itself (x ∷ xs)
one_more_distinct x xs others rest zero y e = record { others = λ j z at lt same. absurd (omega (arith, lt)) }
one_more_distinct x xs others rest (suc i) y e = record { others = apart }
  where
    apart : (j z : ℕ) → slice_get (x ∷ xs) j ≡ Some z → j < suc i → z ≢ y
    apart zero z at lt same = others i y e (sym (same_Some x z at ∙ same))
    apart (suc j) z at lt same = (rest i y e).others j z at (omega (arith, lt)) same

pub one_distinct : (x : ℕ) → Distinct itself (x ∷ [])
one_distinct x = one_more_distinct x [] (no_elements (λ i y. y ≢ x)) none_distinct
