-- Each name of a block's map, at its begin and at its end, belongs to its slot.
use Rattle.std.proofs.Common.{◌≡◌, refl, subst, ℕ, zero, suc, ◌<◌, List, [], ◌∷◌, length, slice_get, Some, None, arith}
use Rattle.std.proofs.lemmas.Option.{same_Some}
use Rattle.block_forms.specs.Forms.{Assignment, Pairs}
use Rattle.block_forms.specs.Named.{AssignmentRenamed, renewal, with_pair}
use Rattle.block_forms.specs.Places.{Each}

pub inside : {X : Type 0} (xs : List X) (i : ℕ) (x : X) → slice_get xs i ≡ Some x → i < length xs
inside [] i x h = absurd (cc)
inside (y ∷ xs) zero x h = omega arith
inside (y ∷ xs) (suc i) x h = let lt : i < length xs = inside xs i x h in omega (arith, lt)

pub element_there : {X : Type 0} (xs : List X) (i : ℕ) → i < length xs → (x : X) × (slice_get xs i ≡ Some x)
element_there [] i lt = absurd (omega (arith, lt))
element_there (x ∷ xs) zero lt = (x, refl)
element_there (x ∷ xs) (suc i) lt = element_there xs i (omega (arith, lt))

module _ (names : List ℕ) where
  abbrev pub Owned : Pairs → Type 0
  Owned m = Each (λ p. slice_get names p.1 ≡ Some p.0) m

  in_front : (p : ℕ × ℕ) (m : Pairs) → slice_get names p.1 ≡ Some p.0 → Owned m → Owned (p ∷ m)
  in_front p m h own zero q at = subst (λ (q : ℕ × ℕ). slice_get names q.1 ≡ Some q.0) (same_Some p q at) h
  in_front p m h own (suc i) q at = own i q at

  pub exit_owned : (m k : Pairs) (p q : Assignment) → AssignmentRenamed names m p q → Owned k → Owned (with_pair (renewal p q) k)
  exit_owned m k None None h own = own
  exit_owned m k None (Some q) h own = absurd h
  exit_owned m k (Some p) None h own = absurd h
  exit_owned m k (Some p) (Some q) h own = in_front (p.0, q.0) k h.0 own
