-- Distinct numbers, and look-up in pairs with distinct keys.
use Rattle.std.proofs.Common.{◌≡◌, ◌⊎◌, ℕ, zero, suc, ◌<◌, ◌≤◌, Bool, true, false, cond, if◌then◌else◌, List, [], ◌∷◌, map, length, slice_get, Some, None, nat_eq, refl, sym, ap, ◌∙◌, subst, inl, inr, arith}
use Rattle.std.specs.List.{filter}
use Rattle.block_forms.specs.Forms.{Pairs, at_key}
use Rattle.block_forms.specs.Places.{Distinct, In, first_of}
use Rattle.call_forms.specs.Called.{itself}
use Rattle.block_graph.proofs.Lists.{from_filter, from_map, in_map, in_place, none_some, other_number, place_in, same_number, some_same}

-- ---- what a filter keeps

pub fewer : {X : Type 0} (p : X → Bool) (xs : List X) → length (filter p xs) ≤ length xs
fewer p [] = omega arith
fewer p (y ∷ ys) = go (p y) (fewer p ys)
  where
    go : (c : Bool) → length (filter p ys) ≤ length ys → length (cond c (y ∷ filter p ys) (filter p ys)) ≤ suc (length ys)
    go true le = omega (arith, le)
    go false le = omega (arith, le)

-- ---- distinct numbers

-- no number stands at two places
abbrev pub Differ : List ℕ → Type 0
Differ [] = Unit {0}
Differ (x ∷ xs) = (In xs x → ⊥) × Differ xs

-- fewer elements have distinct keys as well
pub distinct_filter : {X : Type 0} (p : X → Bool) (f : X → ℕ) (xs : List X) → Differ (map f xs) → Differ (map f (filter p xs))
distinct_filter p f [] d = tt
distinct_filter p f (y ∷ ys) d = go (p y) (distinct_filter p f ys d.1)
  where
    go : (c : Bool) → Differ (map f (filter p ys)) → Differ (map f (cond c (y ∷ filter p ys) (filter p ys)))
    go true rest = (λ i. let r = from_map f (filter p ys) (f y) i in d.0 (subst (In (map f ys)) r.2 (in_map f ys r.0 (from_filter p ys r.0 r.1).0)), rest)
    go false rest = rest

pub slots_differ : (m : Pairs) → Distinct first_of m → Differ (map first_of m)
slots_differ [] d = tt
slots_differ (p ∷ ps) d = (
  (λ i. let r = from_map first_of ps p.0 i in
      let at = place_in ps r.0 r.1 in
      (d (suc at.0) r.0 at.1).others 0 p refl (omega arith) (sym r.2)),
  slots_differ ps (λ i x e. record { others = λ j y at lt. (d (suc i) x e).others (suc j) y at (omega (arith, lt)) }),
)

apart : (xs : List ℕ) → Differ xs → (j i y x : ℕ) → slice_get xs j ≡ Some y → slice_get xs i ≡ Some x → j < i → y ≡ x → ⊥
apart [] d j i y x p q lt e = none_some p
apart (z ∷ zs) d zero zero y x p q lt e = omega (arith, lt)
apart (z ∷ zs) d zero (suc i) y x p q lt e = d.0 (subst (In zs) (sym (some_same p ∙ e)) (in_place zs i x q))
apart (z ∷ zs) d (suc j) zero y x p q lt e = omega (arith, lt)
apart (z ∷ zs) d (suc j) (suc i) y x p q lt e = apart zs d.1 j i y x p q (omega (arith, lt)) e

pub differ_distinct : (xs : List ℕ) → Differ xs → Distinct itself xs
differ_distinct xs d i x e = record { others = λ j y at lt same. apart xs d j i y x at e lt same }

-- ---- look-up

pub in_lookup : (m : Pairs) (p : ℕ × ℕ) → Differ (map first_of m) → In m p → at_key m p.0 ≡ Some p.1
in_lookup [] p d i = absurd i
in_lookup (q ∷ qs) p d i = go (nat_eq q.0 p.0) refl (λ j. in_lookup qs p d.1 j) i
  where
    go : (c : Bool) → nat_eq q.0 p.0 ≡ c → (In qs p → at_key qs p.0 ≡ Some p.1) → In (q ∷ qs) p → (if c then Some q.1 else at_key qs p.0) ≡ Some p.1
    go true h rest (inl e) = ap (λ x. Some x.1) e
    go true h rest (inr j) = absurd (d.0 (subst (In (map first_of qs)) (sym (same_number q.0 p.0 h)) (in_map first_of qs p j)))
    go false h rest (inl e) = absurd (other_number q.0 p.0 h (ap (λ x. x.0) e))
    go false h rest (inr j) = rest j
