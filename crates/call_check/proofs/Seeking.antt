-- A loop over a list that seeks an element.
use Rattle.std.proofs.Common.{◌≡◌, ℕ, zero, suc, ◌+◌, ◌<◌, ◌≤◌, List, [], ◌∷◌, length, get_or, Some, refl, sym, ap, ◌∙◌, subst, arith, inl, inr}
use Rattle.std.specs.Prelude.{slice_get}
use Rattle.std.proofs.Math.Nat.{eq-or-lt_of_le}
use Rattle.std.proofs.lemmas.Option.{slice_get_within, same_Some}

-- the element at a place of the list
pub stands_at : {X : Type 0} (xs : List X) (n : ℕ) (d : X) → n < length xs → slice_get xs n ≡ Some (get_or xs n d)
stands_at [] n d lt = absurd (omega arith)
stands_at (x ∷ xs) zero d lt = refl
stands_at (x ∷ xs) (suc n) d lt = stands_at xs n d (omega arith)

pub own_default : {X : Type 0} (xs : List X) (n : ℕ) (d : X) → n < length xs → get_or xs n d ≡ get_or xs n (get_or xs n d)
own_default [] n d lt = absurd (omega arith)
own_default (x ∷ xs) zero d lt = refl
own_default (x ∷ xs) (suc n) d lt = own_default xs n d (omega arith)

module _ {X : Type 0} (P : X → Type 0) (xs : List X) where
  abbrev pub NoneBelow : ℕ → Type 0
  NoneBelow n = (i : ℕ) (x : X) → i < n → slice_get xs i ≡ Some x → P x → ⊥

  pub none_at_first : NoneBelow 0
  none_at_first i x lt = absurd (omega arith)

  pub none_more : (n : ℕ) (d : X) → n < length xs → NoneBelow n → (P (get_or xs n d) → ⊥) → NoneBelow (n + 1)
  none_more n d lt below here i y less e p =
      let same_place : i ≡ n → ⊥ = λ q.
      let same : Some y ≡ Some (get_or xs n d) = sym e ∙ (ap (slice_get xs) q ∙ stands_at xs n d lt) in
      here (subst P (same_Some y (get_or xs n d) same) p) in
      elim (eq-or-lt_of_le (let le : i ≤ n = omega arith in le)) [ inl q ↦ same_place q | inr before ↦ below i y before e p ]

  pub none_of_all : (n : ℕ) → length xs ≤ n → NoneBelow n → (i : ℕ) (x : X) → slice_get xs i ≡ Some x → P x → ⊥
  none_of_all n le below i x e = below i x (let w = slice_get_within xs i x e in omega arith) e
