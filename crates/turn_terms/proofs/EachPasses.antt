-- Two lists that pass member by member, from a place on.
use Rattle.std.proofs.Common.{◌≡◌, refl, sym, ap, ◌∙◌, ℕ, zero, suc, ◌<◌, Bool, false, ◌&&◌, List, [], ◌∷◌, map, length, drop, get_or, arith}
use Rattle.turn_terms.specs.Sameness.{each_passes}

module _ {A B C : Type 0} (p : B → C → Bool) (f : A → B) where
  abbrev pub from : List A → List C → ℕ → Bool
  from xs ys i = each_passes p (map f (drop i xs)) (drop i ys)

  step : (xs : List A) (ys : List C) (i : ℕ) (x : A) (y : C) → i < length xs → i < length ys
      → from xs ys i ≡ (p (f (get_or xs i x)) (get_or ys i y) && from xs ys (suc i))
  step [] ys i x y lt lt' = absurd (omega (arith, lt))
  step (a ∷ xs) [] i x y lt lt' = absurd (omega (arith, lt'))
  step (a ∷ xs) (b ∷ ys) zero x y lt lt' = refl
  step (a ∷ xs) (b ∷ ys) (suc i) x y lt lt' = step xs ys i x y (omega (arith, lt)) (omega (arith, lt'))

  -- a pair that doesn't
  pub stops : (xs : List A) (ys : List C) (i : ℕ) (x : A) (y : C) (whole : Bool) → i < length xs → length xs ≡ length ys
      → p (f (get_or xs i x)) (get_or ys i y) ≡ false → from xs ys i ≡ whole → false ≡ whole
  stops xs ys i x y whole lt e h kept = sym (step xs ys i x y lt (omega (arith, lt, e)) ∙ ap (λ t. t && from xs ys (suc i)) h) ∙ kept
