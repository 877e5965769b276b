-- Elements of lists by place and by membership, and lists in which no key comes twice.
use Rattle.std.proofs.Common.{◌≡◌, ◌⊎◌, ℕ, zero, suc, ◌<◌, ◌≤◌, Bool, true, false, ◌||◌, eqb, List, [], ◌∷◌, ◌++◌, map, length, Some, refl, sym, ap, ◌∙◌, subst, inl, inr, arith}
use Rattle.std.specs.Prelude.{slice_get}
use Rattle.std.specs.List.{AllByRecursion, IsDistinct, list_any}
use Rattle.std.proofs.lemmas.Bool.{eqb-true, ne_eqb}
use Rattle.std.proofs.lemmas.Map.Steps.{length-le_from_distinct_below}
use Rattle.std.proofs.lemmas.Option.{same_Some, none-some}
use Rattle.block_forms.specs.Places.{In}

-- ---- places

pub in_place : {X : Type 0} (xs : List X) (i : ℕ) (x : X) → slice_get xs i ≡ Some x → In xs x
in_place [] i x e = absurd (none-some x e)
in_place (y ∷ ys) zero x e = inl (same_Some y x e)
in_place (y ∷ ys) (suc i) x e = inr (in_place ys i x e)

pub place_in : {X : Type 0} (xs : List X) (x : X) → In xs x → (i : ℕ) × (slice_get xs i ≡ Some x)
place_in [] x i = absurd i
place_in (y ∷ ys) x (inl e) = (0, ap Some e)
place_in (y ∷ ys) x (inr i) = let r = place_in ys x i in (suc r.0, r.1)

pub in_left : {X : Type 0} (xs ys : List X) (x : X) → In xs x → In (xs ++ ys) x
in_left [] ys x i = absurd i
in_left (z ∷ zs) ys x (inl e) = inl e
in_left (z ∷ zs) ys x (inr i) = inr (in_left zs ys x i)

pub in_right : {X : Type 0} (xs ys : List X) (x : X) → In ys x → In (xs ++ ys) x
in_right [] ys x i = i
in_right (z ∷ zs) ys x i = inr (in_right zs ys x i)

pub from_both : {X : Type 0} (xs ys : List X) (x : X) → In (xs ++ ys) x → In xs x ⊎ In ys x
from_both [] ys x i = inr i
from_both (z ∷ zs) ys x (inl e) = inl (inl e)
from_both (z ∷ zs) ys x (inr i) = elim (from_both zs ys x i) [ inl j ↦ inl (inr j) | inr j ↦ inr j ]

pub at_left : {X : Type 0} (xs ys : List X) (i : ℕ) (x : X) → slice_get xs i ≡ Some x → slice_get (xs ++ ys) i ≡ Some x
at_left [] ys i x e = absurd (none-some x e)
at_left (z ∷ zs) ys zero x e = e
at_left (z ∷ zs) ys (suc i) x e = at_left zs ys i x e

-- a place of two lists is one of the first, or lies behind it and has an element of the second
pub split_at : {X : Type 0} (xs ys : List X) (i : ℕ) (x : X) → slice_get (xs ++ ys) i ≡ Some x → (slice_get xs i ≡ Some x) ⊎ ((length xs ≤ i) × In ys x)
split_at [] ys i x e = inr (omega arith, in_place ys i x e)
split_at (z ∷ zs) ys zero x e = inl e
split_at (z ∷ zs) ys (suc i) x e = elim (split_at zs ys i x e) [ inl q ↦ inl q | inr q ↦ let le = q.0 in inr (omega (arith, le), q.1) ]

pub within : {X : Type 0} (xs : List X) (i : ℕ) (x : X) → slice_get xs i ≡ Some x → i < length xs
within [] i x e = absurd (none-some x e)
within (z ∷ zs) zero x e = omega arith
within (z ∷ zs) (suc i) x e = let lt = within zs i x e in omega (arith, lt)

pub some_at : {X : Type 0} (xs : List X) (i : ℕ) → i < length xs → (x : X) × (slice_get xs i ≡ Some x)
some_at [] i lt = absurd (let no : ⊥ = omega (arith, lt) in no)
some_at (x ∷ xs) zero lt = (x, refl)
some_at (x ∷ xs) (suc i) lt = some_at xs i (omega (arith, lt))

pub lt_or_same : (a b : ℕ) → a < suc b → (a < b) ⊎ (a ≡ b)
lt_or_same zero zero lt = inr refl
lt_or_same zero (suc b) lt = inl (omega arith)
lt_or_same (suc a) zero lt = absurd (let no : ⊥ = omega (arith, lt) in no)
lt_or_same (suc a) (suc b) lt = elim (lt_or_same a b (omega (arith, lt))) [ inl q ↦ inl (omega (arith, q)) | inr q ↦ inr (ap suc q) ]

-- ---- keys

abbrev pub Other : {X : Type 0} → (X → ℕ) → ℕ → List X → Type 0
Other {X} key k xs = (y : X) → In xs y → k ≡ key y → ⊥

abbrev pub KeysDiffer : {X : Type 0} → (X → ℕ) → List X → Type 0
KeysDiffer key [] = Unit {0}
KeysDiffer key (x ∷ xs) = Other key (key x) xs × KeysDiffer key xs

module _ {X : Type 0} (key : X → ℕ) where
  pub differ_both : (xs ys : List X) → KeysDiffer key xs → KeysDiffer key ys → ((x y : X) → In xs x → In ys y → key x ≡ key y → ⊥) → KeysDiffer key (xs ++ ys)
  differ_both [] ys d e h = e
  differ_both (x ∷ xs) ys d e h = (
    (λ y i q. elim (from_both xs ys y i) [ inl j ↦ d.0 y j q | inr j ↦ h x y (inl refl) j q ]),
    differ_both xs ys d.1 e (λ x y i j. h x y (inr i) j),
  )

  pub same_place : (xs : List X) (i j : ℕ) (x y : X) → KeysDiffer key xs → slice_get xs i ≡ Some x → slice_get xs j ≡ Some y → key x ≡ key y → i ≡ j
  same_place [] i j x y d p q e = absurd (none-some x p)
  same_place (z ∷ zs) zero zero x y d p q e = refl
  same_place (z ∷ zs) zero (suc j) x y d p q e = absurd (d.0 y (in_place zs j y q) (ap key (same_Some z x p) ∙ e))
  same_place (z ∷ zs) (suc i) zero x y d p q e = absurd (d.0 x (in_place zs i x p) (ap key (same_Some z y q) ∙ sym e))
  same_place (z ∷ zs) (suc i) (suc j) x y d p q e = ap suc (same_place zs i j x y d.1 p q e)

  -- ---- differing keys below n are at most n

  all_other : (k : ℕ) (xs : List X) → Other key k xs → AllByRecursion (λ y. eqb k y ≡ false) (map key xs)
  all_other k [] h = tt
  all_other k (x ∷ xs) h = (ne_eqb k (key x) (h x (inl refl)), all_other k xs (λ y i. h y (inr i)))

  all_differ : (xs : List X) → KeysDiffer key xs → IsDistinct eqb (map key xs)
  unfolding IsDistinct
  all_differ [] d = tt
  all_differ (x ∷ xs) d = (all_other (key x) xs d.0, all_differ xs d.1)

  below_any : (n : ℕ) (xs : List X) → ((x : X) → In xs x → key x < n) → (q : ℕ) → list_any (eqb q) (map key xs) ≡ true → q < n
  below_any n [] h q there = absurd (no_true there)
    where
      no_true : false ≡ true → ⊥
      no_true h = cc
  below_any n (x ∷ xs) h q there = by (eqb q (key x)) refl there (below_any n xs (λ y i. h y (inr i)) q)
    where
      by : (b : Bool) → eqb q (key x) ≡ b → (b || list_any (eqb q) (map key xs)) ≡ true → (list_any (eqb q) (map key xs) ≡ true → q < n) → q < n
      by true e there further = subst (λ q. q < n) (sym (eqb-true q (key x) e)) (h x (inl refl))
      by false e there further = further there

  map_long : (xs : List X) → length (map key xs) ≡ length xs
  map_long [] = refl
  map_long (x ∷ xs) = ap suc (map_long xs)

  pub at_most : (n : ℕ) (xs : List X) → KeysDiffer key xs → ((x : X) → In xs x → key x < n) → length xs ≤ n
  at_most n xs d b = subst (λ l. l ≤ n) (map_long xs) (length-le_from_distinct_below (map key xs) n (all_differ xs d) (below_any n xs b))
