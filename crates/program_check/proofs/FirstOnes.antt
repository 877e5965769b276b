-- What holds nowhere so far, in a loop over numbers.
use Rattle.std.proofs.Common.{◌≡◌, ◌<◌, ◌≤◌, ℕ, ◌+◌, subst, sym, arith, inl, inr}
use Rattle.std.proofs.Math.Nat.{eq-or-lt_of_le}
use Rattle.program_check.specs.Firsts.{IsFirst, Nowhere}

module _ (Holds : ℕ → Type 0) where
  pub nowhere_more : (n : ℕ) → Nowhere Holds n → (Holds n → ⊥) → Nowhere Holds (n + 1)
  nowhere_more n before not k lt h =
      elim (eq-or-lt_of_le (let le : k ≤ n = omega (arith, lt) in le)) [ inl q ↦ not (subst Holds q h) | inr less ↦ before k less h ]

  -- the loop came to the end
  pub nowhere_all : (n m : ℕ) → m ≤ n → Nowhere Holds n → Nowhere Holds m
  nowhere_all n m le before k lt h = before k (omega (arith, lt, le)) h

  pub first_at : (n k j : ℕ) → j ≡ k → k < n → Holds k → Nowhere Holds k → IsFirst Holds n j
  first_at n k j is lt h before = subst (IsFirst Holds n) (sym is) (record { inside = lt; holds = h; before = before })
