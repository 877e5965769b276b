-- Membership and look-up under map and filter, and elements by place.
use Rattle.std.proofs.Common.{◌≤◌, ◌⊎◌, ◌++◌, get_or, ◌≡◌, ℕ, zero, suc, ◌<◌, length, Bool, true, false, cond, if◌then◌else◌, List, [], ◌∷◌, map, slice_get, Some, None, nat_eq, refl, sym, ap, ◌∙◌, subst, inl, inr, arith}
use Rattle.std.specs.List.{filter}
use Rattle.block_forms.specs.Forms.{at_key}
use Rattle.block_forms.specs.Places.{first_of}
use Rattle.block_forms.specs.Places.{In}
use Rattle.block_graph.proofs.Lists.{from_both, from_filter, from_map, in_map, in_place, none_some, other_number, same_number, some_same}
use Rattle.ssa_build.proofs.Naming.{Differ}

pub in_along : {X : Type 0} (xs : List X) (x y : X) → x ≡ y → In xs x → In xs y
in_along xs x y e i = subst (λ z. In xs z) e i

pub same_map : {X Y : Type 0} (f h : X → Y) (xs : List X) → ((x : X) → In xs x → f x ≡ h x) → map f xs ≡ map h xs
same_map f h [] e = refl
same_map f h (x ∷ xs) e = ap (λ y. y ∷ map f xs) (e x (inl refl)) ∙ ap (λ ys. h x ∷ ys) (same_map f h xs (λ y i. e y (inr i)))

-- where keys are distinct, an element is found by its key
pub same_key : {X Y : Type 0} (f : X → Y) (xs : List X) (a b : X) → Differ (map f xs) → In xs a → In xs b → f a ≡ f b → a ≡ b
same_key f [] a b d i j e = absurd i
same_key f (x ∷ xs) a b d (inl p) (inl q) e = sym p ∙ q
same_key f (x ∷ xs) a b d (inl p) (inr j) e = absurd (d.0 (in_along (map f xs) _ _ (sym e ∙ ap f (sym p)) (in_map f xs b j)))
same_key f (x ∷ xs) a b d (inr i) (inl q) e = absurd (d.0 (in_along (map f xs) _ _ (e ∙ ap f (sym q)) (in_map f xs a i)))
same_key f (x ∷ xs) a b d (inr i) (inr j) e = same_key f xs a b d.1 i j e

module _ {X : Type 0} (p : X → Bool) where
  -- fewer elements have distinct keys as well
  pub distinct_filter : {Y : Type 0} (f : X → Y) (xs : List X) → Differ (map f xs) → Differ (map f (filter p xs))
  distinct_filter f [] d = tt
  distinct_filter f (y ∷ ys) d = go (p y) (distinct_filter f ys d.1)
    where
      go : (c : Bool) → Differ (map f (filter p ys)) → Differ (map f (cond c (y ∷ filter p ys) (filter p ys)))
      go true rest = (λ i. let r = from_map f (filter p ys) (f y) i in d.0 (in_along (map f ys) _ _ r.2 (in_map f ys r.0 (from_filter p ys r.0 r.1).0)), rest)
      go false rest = rest

-- ---- look-up

pub in_lookup : (m : List (ℕ × ℕ)) (p : ℕ × ℕ) → Differ (map first_of m) → In m p → at_key m p.0 ≡ Some p.1
in_lookup [] p d i = absurd i
in_lookup (q ∷ qs) p d i = go (nat_eq q.0 p.0) refl (λ j. in_lookup qs p d.1 j) i
  where
    go : (c : Bool) → nat_eq q.0 p.0 ≡ c → (In qs p → at_key qs p.0 ≡ Some p.1) → In (q ∷ qs) p → (if c then Some q.1 else at_key qs p.0) ≡ Some p.1
    go true h rest (inl e) = ap (λ x. Some x.1) e
    go true h rest (inr j) = absurd (d.0 (in_along (map first_of qs) _ _ (sym (same_number q.0 p.0 h)) (in_map first_of qs p j)))
    go false h rest (inl e) = absurd (other_number q.0 p.0 h (ap (λ x. x.0) e))
    go false h rest (inr j) = rest j

-- ---- elements by place

pub in_get_or : {X : Type 0} (xs : List X) (k : ℕ) (d : X) → k < length xs → In xs (get_or xs k d)
in_get_or [] k d lt = absurd (let no : ⊥ = omega arith in no)
in_get_or (x ∷ xs) zero d lt = inl refl
in_get_or (x ∷ xs) (suc k) d lt = inr (in_get_or xs k d (omega arith))

pub place_of : {X : Type 0} (xs : List X) (x d : X) → In xs x → (k : ℕ) × (k < length xs) × (get_or xs k d ≡ x)
place_of [] x d i = absurd i
place_of (y ∷ ys) x d (inl e) = (0, omega arith, e)
place_of (y ∷ ys) x d (inr i) = let r = place_of ys x d i in (suc r.0, (let lt = r.1 in omega (arith, lt)), r.2)

pub same_place : {X Y : Type 0} (f : X → Y) (xs : List X) (a b : ℕ) (x y : X) → Differ (map f xs) → slice_get xs a ≡ Some x → slice_get xs b ≡ Some y → f x ≡ f y → a ≡ b
same_place f [] a b x y d p q e = absurd (none_some p)
same_place f (z ∷ zs) zero zero x y d p q e = refl
same_place f (z ∷ zs) zero (suc b) x y d p q e = absurd (d.0 (in_along (map f zs) _ _ (sym e ∙ ap f (sym (some_same p))) (in_map f zs y (in_place zs b y q))))
same_place f (z ∷ zs) (suc a) zero x y d p q e = absurd (d.0 (in_along (map f zs) _ _ (e ∙ ap f (sym (some_same q))) (in_map f zs x (in_place zs a x p))))
same_place f (z ∷ zs) (suc a) (suc b) x y d p q e = ap suc (same_place f zs a b x y d.1 p q e)

pub distinct_both : {X Y : Type 0} (f : X → Y) (xs ys : List X) → Differ (map f xs) → Differ (map f ys) → ((x y : X) → In xs x → In ys y → f x ≡ f y → ⊥) → Differ (map f (xs ++ ys))
distinct_both f [] ys d e h = e
distinct_both f (z ∷ zs) ys d e h = (
  (λ i. let r = from_map f (zs ++ ys) (f z) i in elim (from_both zs ys r.0 r.1) [
    | inl j ↦ d.0 (in_along (map f zs) _ _ r.2 (in_map f zs r.0 j))
    | inr j ↦ h z r.0 (inl refl) j (sym r.2)
  ]),
  distinct_both f zs ys d.1 e (λ x y i j. h x y (inr i) j),
)
