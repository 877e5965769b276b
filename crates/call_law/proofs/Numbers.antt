-- Lists of numbers that differ and are below a bound.
use Rattle.std.proofs.Common.{◌≡◌, ◌≢◌, ℕ, suc, ◌<◌, ◌≤◌, Bool, true, false, ◌||◌, eqb, List, [], ◌∷◌, length, refl, sym, subst, arith}
use Rattle.std.specs.List.{IsDistinct, AllByRecursion, list_any}
use Rattle.std.proofs.lemmas.Bool.{eqb-true, ne_eqb}
use Rattle.std.proofs.lemmas.Map.Steps.{length-le_from_distinct_below}
use Rattle.block_forms.specs.Places.{Each, Distinct}
use Rattle.call_forms.specs.Called.{itself}

abbrev pub Misses : ℕ → List ℕ → Type 0
Misses x [] = Unit {0}
Misses x (y ∷ ys) = (x ≢ y) × Misses x ys

abbrev pub Differ : List ℕ → Type 0
Differ [] = Unit {0}
Differ (x ∷ xs) = Misses x xs × Differ xs

abbrev pub Below : ℕ → List ℕ → Type 0
Below n [] = Unit {0}
Below n (x ∷ xs) = (x < n) × Below n xs

-- ---- from what holds by places

misses_each : (x : ℕ) (ys : List ℕ) → Each (λ y. x ≢ y) ys → Misses x ys
misses_each x [] each = tt
misses_each x (y ∷ ys) each = (each 0 y refl, misses_each x ys (λ i y e. each (suc i) y e))

pub differ_is : (xs : List ℕ) → Distinct itself xs → Differ xs
differ_is [] distinct = tt
differ_is (x ∷ xs) distinct = (
  misses_each x xs (λ i y e. (distinct (suc i) y e).others 0 x refl (omega arith)),
  differ_is xs (λ i y e. record { others = λ j z at lt. (distinct (suc i) y e).others (suc j) z at (omega (arith, lt)) }),
)

pub below_each : (n : ℕ) (xs : List ℕ) → Each (λ x. x < n) xs → Below n xs
below_each n [] each = tt
below_each n (x ∷ xs) each = (each 0 x refl, below_each n xs (λ i x e. each (suc i) x e))

-- ---- differing numbers below n are at most n

misses_all : (x : ℕ) (ys : List ℕ) → Misses x ys → AllByRecursion (λ y. eqb x y ≡ false) ys
misses_all x [] h = tt
misses_all x (y ∷ ys) h = (ne_eqb x y h.0, misses_all x ys h.1)

all_differ : (xs : List ℕ) → Differ xs → IsDistinct eqb xs
unfolding IsDistinct
all_differ [] h = tt
all_differ (x ∷ xs) h = (misses_all x xs h.0, all_differ xs h.1)

below_any : (n : ℕ) (xs : List ℕ) → Below n xs → (q : ℕ) → list_any (eqb q) xs ≡ true → q < n
below_any n [] h q there = absurd (no_true there)
  where
    no_true : false ≡ true → ⊥
    no_true h = cc
below_any n (x ∷ xs) h q there = by (eqb q x) refl there (below_any n xs h.1 q)
  where
    by : (b : Bool) → eqb q x ≡ b → (b || list_any (eqb q) xs) ≡ true → (list_any (eqb q) xs ≡ true → q < n) → q < n
    by true e there further = subst (λ q. q < n) (sym (eqb-true q x e)) h.0
    by false e there further = further there

pub at_most : (n : ℕ) (xs : List ℕ) → Differ xs → Below n xs → length xs ≤ n
at_most n xs d b = length-le_from_distinct_below xs n (all_differ xs d) (below_any n xs b)
