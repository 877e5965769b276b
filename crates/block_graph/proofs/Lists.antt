-- Numbers compared, membership and look-up under map and filter, and elements by place.
use Rattle.std.proofs.Common.{◌≡◌, ◌⊎◌, ◌++◌, ℕ, zero, suc, ◌<◌, ◌≤◌, Bool, true, false, cond, if◌then◌else◌, List, [], ◌∷◌, map, length, slice_get, Some, None, nat_eq, refl, sym, ap, ◌∙◌, inl, inr, arith}
use Rattle.std.specs.List.{filter}
use Rattle.std.proofs.lemmas.Bool.Decides.{eqb_tells}
use Rattle.block_forms.specs.Forms.{at_key}
use Rattle.block_forms.specs.Places.{In}

pub some_same : {X : Type 0} {a b : X} → Some a ≡ Some b → a ≡ b
some_same e = cc

pub none_some : {X : Type 0} {a : X} → None ≡ Some a → ⊥
none_some e = cc

pub same_number : (a b : ℕ) → nat_eq a b ≡ true → a ≡ b
same_number a b e = elim (eqb_tells a b) [ inl h ↦ h.1 | inr h ↦ absurd (let x : ⊥ = cc in x) ]

pub other_number : (a b : ℕ) → nat_eq a b ≡ false → a ≡ b → ⊥
other_number a b e q = elim (eqb_tells a b) [ inl h ↦ let x : ⊥ = cc in x | inr h ↦ h.1 q ]

pub tests_same : (a b : ℕ) → a ≡ b → nat_eq a b ≡ true
tests_same a b q = elim (eqb_tells a b) [ inl h ↦ h.0 | inr h ↦ absurd (h.1 q) ]

pub tests_other : (a b : ℕ) → (a ≡ b → ⊥) → nat_eq a b ≡ false
tests_other a b q = elim (eqb_tells a b) [ inl h ↦ absurd (q h.1) | inr h ↦ h.0 ]

-- two equal numbers, or not
pub compared : (a b : ℕ) → (a ≡ b) ⊎ (a ≡ b → ⊥)
compared a b = elim (eqb_tells a b) [ inl h ↦ inl h.1 | inr h ↦ inr h.1 ]

pub within_or_past : (n m : ℕ) → (n < m) ⊎ (m ≤ n)
within_or_past zero zero = inr (omega arith)
within_or_past zero (suc m) = inl (omega arith)
within_or_past (suc n) zero = inr (omega arith)
within_or_past (suc n) (suc m) = elim (within_or_past n m) [ inl h ↦ inl (omega arith) | inr h ↦ inr (omega arith) ]

-- ---- elements by place

pub in_place : {X : Type 0} (xs : List X) (i : ℕ) (x : X) → slice_get xs i ≡ Some x → In xs x
in_place [] i x e = absurd (none_some e)
in_place (y ∷ ys) zero x e = inl (some_same e)
in_place (y ∷ ys) (suc i) x e = inr (in_place ys i x e)

pub place_in : {X : Type 0} (xs : List X) (x : X) → In xs x → (i : ℕ) × (slice_get xs i ≡ Some x)
place_in [] x i = absurd i
place_in (y ∷ ys) x (inl e) = (0, ap Some e)
place_in (y ∷ ys) x (inr i) = let r = place_in ys x i in (suc r.0, r.1)

pub some_at : {X : Type 0} (xs : List X) (k : ℕ) → k < length xs → (x : X) × (slice_get xs k ≡ Some x)
some_at [] k lt = absurd (let no : ⊥ = omega arith in no)
some_at (x ∷ xs) zero lt = (x, refl)
some_at (x ∷ xs) (suc k) lt = some_at xs k (omega arith)

module _ {X Y : Type 0} (f : X → Y) where
  pub in_map : (xs : List X) (x : X) → In xs x → In (map f xs) (f x)
  in_map [] x i = i
  in_map (y ∷ ys) x (inl e) = inl (ap f e)
  in_map (y ∷ ys) x (inr i) = inr (in_map ys x i)

  pub from_map : (xs : List X) (y : Y) → In (map f xs) y → (x : X) × In xs x × (f x ≡ y)
  from_map [] y i = absurd i
  from_map (x ∷ xs) y (inl e) = (x, inl refl, e)
  from_map (x ∷ xs) y (inr i) = let r = from_map xs y i in (r.0, inr r.1, r.2)

  pub at_map : (xs : List X) (k : ℕ) (x : X) → slice_get xs k ≡ Some x → slice_get (map f xs) k ≡ Some (f x)
  at_map [] k x e = absurd (none_some e)
  at_map (y ∷ ys) zero x e = ap (λ z. Some (f z)) (some_same e)
  at_map (y ∷ ys) (suc k) x e = at_map ys k x e

  pub from_at_map : (xs : List X) (k : ℕ) (y : Y) → slice_get (map f xs) k ≡ Some y → (x : X) × (slice_get xs k ≡ Some x) × (f x ≡ y)
  from_at_map [] k y e = absurd (none_some e)
  from_at_map (x ∷ xs) zero y e = (x, refl, some_same e)
  from_at_map (x ∷ xs) (suc k) y e = from_at_map xs k y e

-- ---- what a filter keeps

module _ {X : Type 0} (p : X → Bool) where
  pub from_filter : (xs : List X) (x : X) → In (filter p xs) x → In xs x × (p x ≡ true)
  from_filter [] x i = absurd i
  from_filter (y ∷ ys) x i = go (p y) refl (λ j. from_filter ys x j) i
    where
      go : (c : Bool) → p y ≡ c → (In (filter p ys) x → In ys x × (p x ≡ true)) → In (cond c (y ∷ filter p ys) (filter p ys)) x → In (y ∷ ys) x × (p x ≡ true)
      go true e rest (inl q) = (inl q, ap p (sym q) ∙ e)
      go true e rest (inr j) = let r = rest j in (inr r.0, r.1)
      go false e rest j = let r = rest j in (inr r.0, r.1)

  pub in_filter : (xs : List X) (x : X) → In xs x → p x ≡ true → In (filter p xs) x
  in_filter [] x i h = i
  in_filter (y ∷ ys) x i h = go (p y) refl (λ j. in_filter ys x j h) i
    where
      go : (c : Bool) → p y ≡ c → (In ys x → In (filter p ys) x) → In (y ∷ ys) x → In (cond c (y ∷ filter p ys) (filter p ys)) x
      go true e rest (inl q) = inl q
      go true e rest (inr j) = inr (rest j)
      go false e rest (inl q) = absurd (let no : ⊥ = cc (e, ap p q, h) in no)
      go false e rest (inr j) = rest j

-- ---- lists joined

pub in_left : {X : Type 0} (xs ys : List X) (x : X) → In xs x → In (xs ++ ys) x
in_left [] ys x i = absurd i
in_left (z ∷ zs) ys x (inl e) = inl e
in_left (z ∷ zs) ys x (inr i) = inr (in_left zs ys x i)

pub in_right : {X : Type 0} (xs ys : List X) (x : X) → In ys x → In (xs ++ ys) x
in_right [] ys x i = i
in_right (z ∷ zs) ys x i = inr (in_right zs ys x i)

pub from_both : {X : Type 0} (xs ys : List X) (x : X) → In (xs ++ ys) x → In xs x ⊎ In ys x
from_both [] ys x i = inr i
from_both (z ∷ zs) ys x (inl e) = inl (inl e)
from_both (z ∷ zs) ys x (inr i) = elim (from_both zs ys x i) [ inl j ↦ inl (inr j) | inr j ↦ inr j ]

-- ---- look-up

pub from_lookup : (m : List (ℕ × ℕ)) (s n : ℕ) → at_key m s ≡ Some n → In m (s, n)
from_lookup [] s n e = absurd (none_some e)
from_lookup (p ∷ ps) s n e = go (nat_eq p.0 s) refl (λ q. from_lookup ps s n q) e
  where
    go : (c : Bool) → nat_eq p.0 s ≡ c → (at_key ps s ≡ Some n → In ps (s, n)) → (if c then Some p.1 else at_key ps s) ≡ Some n → In (p ∷ ps) (s, n)
    go true h rest q = inl (ap (λ a. (a, p.1)) (same_number p.0 s h) ∙ ap (λ b. (s, b)) (some_same q))
    go false h rest q = inr (rest q)
