-- Lists whose members correspond, from a place on.
use Rattle.std.proofs.Common.{◌≡◌, refl, sym, ◌∙◌, subst, ℕ, zero, suc, ◌+◌, ◌<◌, ◌≤◌, List, [], ◌∷◌, length, drop, get_or, arith}
use Rattle.moved_slots.specs.Moved.{Each}

module _ {A : Type 0} (R : A → A → Type 0) where
  -- one pair more
  each_step : (xs ys : List A) (i : ℕ) (x y : A) → i < length xs → i < length ys → x ≡ get_or xs i x → y ≡ get_or ys i y → R x y → Each R (drop (suc i) xs) (drop (suc i) ys) → Each R (drop i xs) (drop i ys)
  each_step [] ys i x y lt lt' p q r rest = absurd (omega (arith, lt))
  each_step (a ∷ xs) [] i x y lt lt' p q r rest = absurd (omega (arith, lt'))
  each_step (a ∷ xs) (b ∷ ys) zero x y lt lt' p q r rest = (subst (λ a. R a b) p (subst (λ b. R x b) q r), rest)
  each_step (a ∷ xs) (b ∷ ys) (suc i) x y lt lt' p q r rest = each_step xs ys i x y (omega (arith, lt)) (omega (arith, lt')) p q r rest

  -- none behind the ends
  each_end : (xs ys : List A) (i : ℕ) → length xs ≤ i → length xs ≡ length ys → Each R (drop i xs) (drop i ys)
  each_end [] [] zero le e = tt
  each_end [] [] (suc i) le e = tt
  each_end [] (y ∷ ys) i le e = absurd (omega (arith, e))
  each_end (x ∷ xs) [] i le e = absurd (omega (arith, e))
  each_end (x ∷ xs) (y ∷ ys) zero le e = absurd (omega (arith, le))
  each_end (x ∷ xs) (y ∷ ys) (suc i) le e = each_end xs ys i (omega (arith, le)) (omega (arith, e))

  -- what follows from the pairs from a place on follows from those behind it
  pub each_kept : {Z : Type 0} (xs ys : List A) (i : ℕ) (x y : A) → i < length xs → length xs ≡ length ys → x ≡ get_or xs i x → y ≡ get_or ys i y → R x y → (Each R (drop i xs) (drop i ys) → Z) → Each R (drop (i + 1) xs) (drop (i + 1) ys) → Z
  each_kept xs ys i x y lt e p q r all rest =
      let next : i + 1 ≡ suc i = omega arith in
      all (each_step xs ys i x y lt (omega (arith, lt, e)) p q r (subst (λ k. Each R (drop k xs) (drop k ys)) next rest))

  -- and where none is left, it follows
  pub each_left : {Z : Type 0} (xs ys : List A) (i : ℕ) → length xs ≤ i → length xs ≡ length ys → (Each R (drop i xs) (drop i ys) → Z) → Z
  each_left xs ys i le e all = all (each_end xs ys i le e)

-- the same of members that are equal
pub same_at : {A : Type 0} (R : A → A → Type 0) (x y a b : A) → x ≡ a → y ≡ b → R a b → R x y
same_at R x y a b p q h = subst (λ x. R x y) (sym p) (subst (λ y. R a y) (sym q) h)

pub from_at : {A : Type 0} (R : A → A → Type 0) (x y a b : A) → a ≡ x → b ≡ y → R a b → R x y
from_at R x y a b p q h = subst (λ x. R x y) p (subst (λ y. R a y) q h)

-- a member by its place, whatever stands for none
any_default : {A : Type 0} (xs : List A) (i : ℕ) (x y : A) → i < length xs → get_or xs i x ≡ get_or xs i y
any_default [] i x y lt = absurd (omega (arith, lt))
any_default (a ∷ xs) zero x y lt = refl
any_default (a ∷ xs) (suc i) x y lt = any_default xs i x y (omega (arith, lt))

pub seen_at : {A : Type 0} (xs : List A) (i : ℕ) (x y : A) → i < length xs → x ≡ get_or xs i x → get_or xs i y ≡ x
seen_at xs i x y lt p = any_default xs i y x lt ∙ sym p
