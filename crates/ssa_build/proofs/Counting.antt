-- Membership in numbers in order, and elements with their places.
use Rattle.std.proofs.Common.{◌≡◌, ℕ, zero, suc, ◌+◌, ◌<◌, ◌≤◌, List, [], ◌∷◌, map, length, slice_get, Some, refl, ap, ◌∙◌, inl, inr, arith}
use Rattle.block_forms.specs.Places.{In}
use Rattle.block_graph.specs.Ranges.{count_from}
use Rattle.block_graph.proofs.Ranges.{from_count}
use Rattle.ssa_build.specs.Maximal.{numbered}
use Rattle.block_graph.proofs.Lists.{from_map, none_some, some_same}
use Rattle.ssa_build.proofs.Lists.{in_along}
use Rattle.ssa_build.proofs.Naming.{Differ}

pub distinct_count : (i n : ℕ) → Differ (count_from i n)
distinct_count i zero = tt
distinct_count i (suc n) = ((λ m. let r = from_count (suc i) n i m in omega (arith, r.0)), distinct_count (suc i) n)

-- under a map that keeps elements apart
pub distinct_map : {X Y : Type 0} (f : X → Y) (xs : List X) → ((x y : X) → In xs x → In xs y → f x ≡ f y → x ≡ y) → Differ xs → Differ (map f xs)
distinct_map f [] h d = tt
distinct_map f (x ∷ xs) h d =
    ((λ m. let r = from_map f xs (f x) m in d.0 (in_along xs _ _ (h r.0 x (inr r.1) (inl refl) r.2) r.1)), distinct_map f xs (λ a b i j e. h a b (inr i) (inr j) e) d.1)

module _ {X Y : Type 0} (f : ℕ → X → Y) where
  pub at_numbered : (i k : ℕ) (xs : List X) (y : Y) → slice_get (numbered f i xs) k ≡ Some y → (x : X) × (slice_get xs k ≡ Some x) × (f (i + k) x ≡ y)
  at_numbered i k [] y e = absurd (none_some e)
  at_numbered i zero (x ∷ xs) y e = (x, refl, ap (λ v. f v x) (let q : i + 0 ≡ i = omega arith in q) ∙ some_same e)
  at_numbered i (suc k) (x ∷ xs) y e = let r = at_numbered (suc i) k xs y e in (r.0, r.1, ap (λ v. f v r.0) (let q : i + suc k ≡ suc i + k = omega arith in q) ∙ r.2)

  pub length_numbered : (i : ℕ) (xs : List X) → length (numbered f i xs) ≡ length xs
  length_numbered i [] = refl
  length_numbered i (x ∷ xs) = ap suc (length_numbered (suc i) xs)

pub numbered_at : {X Y : Type 0} (f : ℕ → X → Y) (i k : ℕ) (xs : List X) (x : X) → slice_get xs k ≡ Some x → slice_get (numbered f i xs) k ≡ Some (f (i + k) x)
numbered_at f i k [] x e = absurd (none_some e)
numbered_at f i zero (y ∷ ys) x e = ap (λ v. Some (f i v)) (some_same e) ∙ ap (λ v. Some (f v x)) (let q : i ≡ i + 0 = omega arith in q)
numbered_at f i (suc k) (y ∷ ys) x e = numbered_at f (suc i) k ys x e ∙ ap (λ v. Some (f v x)) (let q : suc i + k ≡ i + suc k = omega arith in q)
