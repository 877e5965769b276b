-- Labels and their places, by number.
use Rattle.std.proofs.Common.{◌≡◌, ℕ, zero, suc, ◌+◌, ◌<◌, Bool, true, false, cond, nat_eq, List, [], ◌∷◌, length, Some, None, refl, subst, arith}
use Rattle.std.specs.Prelude.{slice_get}
use Rattle.std.proofs.lemmas.Bool.{eqb-true, eqb-false}
use Rattle.std.proofs.lemmas.Option.{same_Some}
use Rattle.call_forms.specs.Forms.{place_from}

pub element_there : {X : Type 0} (xs : List X) (i : ℕ) → i < length xs → (x : X) × (slice_get xs i ≡ Some x)
element_there [] i lt = absurd (omega (arith, lt))
element_there (x ∷ xs) zero lt = (x, refl)
element_there (x ∷ xs) (suc i) lt = element_there xs i (omega (arith, lt))

record FoundFrom (n : ℕ) (xs : List ℕ) (b i : ℕ) : Type 0 where
  place : ℕ
  counted : i ≡ n + place
  there : slice_get xs place ≡ Some b

found_from : (n : ℕ) (xs : List ℕ) (b i : ℕ) → place_from n xs b ≡ Some i → FoundFrom n xs b i
found_from n [] b i e = absurd (cc)
found_from n (x ∷ xs) b i e = by (nat_eq x b) refl e (found_from (suc n) xs b i)
  where
    by : (t : Bool) → nat_eq x b ≡ t → cond t (Some n) (place_from (suc n) xs b) ≡ Some i
        → (place_from (suc n) xs b ≡ Some i → FoundFrom (suc n) xs b i) → FoundFrom n (x ∷ xs) b i
    by true h e further = record { place = 0; counted = omega (arith, same_Some n i e); there = let same = eqb-true x b h in cc }
    by false h e further = let r = further e in record { place = suc r.place; counted = omega (arith, r.counted); there = r.there }

-- the place that is found has the number
pub place_found : (xs : List ℕ) (b i : ℕ) → place_from 0 xs b ≡ Some i → slice_get xs i ≡ Some b
place_found xs b i e =
    let found = found_from 0 xs b i e in
    let same : found.place ≡ i = omega (arith, found.counted) in subst (λ i. slice_get xs i ≡ Some b) same found.there

-- a number of the list has a place
pub placed : (n : ℕ) (xs : List ℕ) (b i : ℕ) → slice_get xs i ≡ Some b → place_from n xs b ≡ None → ⊥
placed n [] b i e none = absurd (cc)
placed n (x ∷ xs) b i e none = by (nat_eq x b) refl none i e (placed (suc n) xs b)
  where
    by : (t : Bool) → nat_eq x b ≡ t → cond t (Some n) (place_from (suc n) xs b) ≡ None → (i : ℕ) → slice_get (x ∷ xs) i ≡ Some b
        → ((i : ℕ) → slice_get xs i ≡ Some b → place_from (suc n) xs b ≡ None → ⊥) → ⊥
    by true h none i e further = cc
    by false h none zero e further = eqb-false x b h (same_Some x b e)
    by false h none (suc i) e further = further i e none
