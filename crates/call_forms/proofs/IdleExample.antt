-- Parameters that nothing needs aren't useful.
use Rattle.std.proofs.Common.{◌≡◌, ℕ, zero, suc, [], ◌∷◌, Some, refl, sym, subst, arith, inl, inr}
use Rattle.std.specs.Prelude.{slice_get}
use Rattle.std.proofs.lemmas.Option.{same_Some}
use Rattle.call_forms.specs.Called.{Among}
use Rattle.call_forms.specs.Forms.{params_of}
use Rattle.call_forms.specs.Useful.{PassesOn, UsefulWithin}
use Rattle.call_forms.specs.WorkedUses.{call, idle_anf, WorkedUses}

not_read : Among (1 ∷ []) 0 → ⊥
not_read a = by a.place a.there
  where
    by : (i : ℕ) → slice_get {X = ℕ} (1 ∷ []) i ≡ Some 0 → ⊥
    by zero e = omega (arith, same_Some 1 0 e)
    by (suc i) e = cc

-- the loop's own call hands parameter 0 to parameter 0
to_itself : (k : ℕ) → (UsefulWithin idle_anf k 0 0 → ⊥) → PassesOn (UsefulWithin idle_anf k) idle_anf 0 (call 0 (0 ∷ 1 ∷ [])) → ⊥
to_itself k h c = by c.place c.parameter c.argument_is c.parameter_is c.holds
  where
    by : (i p : ℕ) → slice_get {X = ℕ} (0 ∷ 1 ∷ []) i ≡ Some 0 → slice_get (params_of (slice_get idle_anf.blocks 0)) i ≡ Some p → UsefulWithin idle_anf k 0 p → ⊥
    by zero p e d u = h (subst (UsefulWithin idle_anf k 0) (sym (same_Some 0 p d)) u)
    by (suc zero) p e d u = omega (arith, same_Some 1 0 e)
    by (suc (suc i)) p e d u = cc

-- the other call doesn't hand it on
to_the_end : (k : ℕ) → PassesOn (UsefulWithin idle_anf k) idle_anf 0 (call 1 (1 ∷ [])) → ⊥
to_the_end k c = by c.place c.argument_is
  where
    by : (i : ℕ) → slice_get {X = ℕ} (1 ∷ []) i ≡ Some 0 → ⊥
    by zero e = omega (arith, same_Some 1 0 e)
    by (suc i) e = cc

idle : (k : ℕ) → UsefulWithin idle_anf k 0 0 → ⊥
idle zero u = u
idle (suc k) (inl read) = read
idle (suc k) (inr (another, inl read)) = not_read read
idle (suc k) (inr (another, inr (inl first))) = to_itself k (idle k) first
idle (suc k) (inr (another, inr (inr second))) = to_the_end k second

set_anew : (k : ℕ) → UsefulWithin idle_anf k 1 2 → ⊥
set_anew zero u = u
set_anew (suc k) (inl read) = by read.place read.there
  where
    by : (i : ℕ) → slice_get {X = ℕ} [] i ≡ Some 2 → ⊥
    by i e = cc
set_anew (suc k) (inr (another, later)) = another refl

pub uses_are : WorkedUses
uses_are = record {
  read = record { steps = 1; within = inr (tt, inl (record { place = 0; there = refl })) };
  handed_on_alone = λ u. idle u.steps u.within;
  set_before = λ u. set_anew u.steps u.within;
  not_all = λ u. let here = u.each 0 _ refl 0 0 refl in idle here.steps here.within;
}
