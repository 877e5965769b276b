-- What holds of each two elements at one place, in a loop over the places.
use Rattle.std.proofs.Common.{◌≡◌, ℕ, zero, suc, ◌+◌, ◌<◌, ◌≤◌, Bool, false, List, [], ◌∷◌, length, get_or, Some, None, ◌↔◌, IsTrue, refl, sym, ap, ◌∙◌, subst, arith, inl, inr}
use Rattle.std.specs.Prelude.{slice_get}
use Rattle.std.proofs.Math.Nat.{eq-or-lt_of_le}
use Rattle.std.proofs.lemmas.Option.{slice_get_within, slice_get_read, get_or_from_slice_get}
use Rattle.block_forms.specs.Places.{EachPair}
use Rattle.block_forms.proofs.Verdicts.{refuted}

-- a place without an element is behind the list
pub no_element : {X : Type 0} (xs : List X) (i : ℕ) → slice_get xs i ≡ None → length xs ≤ i
no_element [] i e = omega arith
no_element (x ∷ xs) zero e = absurd (cc)
no_element (x ∷ xs) (suc i) e = let le = no_element xs i e in omega arith

module _ {X Y : Type 0} (P : ℕ → X → Y → Type 0) (xs : List X) (ys : List Y) where
  abbrev pub EachPairBelow : ℕ → Type 0
  EachPairBelow n = (i : ℕ) (x : X) (y : Y) → i < n → slice_get xs i ≡ Some x → slice_get ys i ≡ Some y → P i x y

  pub pairs_more : (n : ℕ) (x : X) (y : Y) → x ≡ get_or xs n x → y ≡ get_or ys n y → EachPairBelow n → P n x y → EachPairBelow (n + 1)
  pairs_more n x y at_x at_y below here i x' y' lt e f =
      let same_place : i ≡ n → P i x' y' = λ q.
      let at_i : x ≡ x' = at_x ∙ (ap (λ j. get_or xs j x) (sym q) ∙ get_or_from_slice_get xs i x' x e) in
      let at_i' : y ≡ y' = at_y ∙ (ap (λ j. get_or ys j y) (sym q) ∙ get_or_from_slice_get ys i y' y f) in
      subst (λ j. P j x' y') (sym q) (subst (λ x. P n x y') at_i (subst (λ y. P n x y) at_i' here)) in
      elim (eq-or-lt_of_le (let le : i ≤ n = omega arith in le)) [ inl q ↦ same_place q | inr less ↦ below i x' y' less e f ]

  pub pairs_all : (n : ℕ) → length xs ≤ n → EachPairBelow n → EachPair P xs ys
  pairs_all n le below i x y e f = below i x y (let w = slice_get_within xs i x e in omega arith) e f

  pub pair_at : (n : ℕ) (x : X) (y : Y) → n < length xs → n < length ys → x ≡ get_or xs n x → y ≡ get_or ys n y → EachPair P xs ys → P n x y
  pair_at n x y lt lt' at_x at_y each =
      each n x y (slice_get_read xs (length xs) n x refl lt at_x) (slice_get_read ys (length ys) n y refl lt' at_y)

  -- a pair that fails refutes the whole
  pub pair_refutes : (n : ℕ) (x : X) (y : Y) (r : Bool) → n < length xs → length xs ≡ length ys → x ≡ get_or xs n x → y ≡ get_or ys n y → r ≡ false
      → IsTrue r ↔ P n x y → IsTrue false ↔ EachPair P xs ys
  pair_refutes n x y r lt many at_x at_y e test = refuted r e test (pair_at n x y lt (let lt' : n < length ys = omega arith in lt') at_x at_y)
