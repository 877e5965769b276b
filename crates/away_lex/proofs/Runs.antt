-- Runs of bytes at the front of a text.
use Rattle.std.proofs.Common.{◌≡◌, ℕ, suc, ◌+◌, Bool, true, false, ◌&&◌, List, [], ◌∷◌, length, get_or, take, refl, arith}
use Rattle.std.proofs.lemmas.Bool.{cases_Bool}
use Rattle.std.specs.List.{prefix_len, list_all}
use Rattle.std.proofs.Common.{inl, inr}

pub and_left : (a b : Bool) → (a && b) ≡ true → a ≡ true
and_left true b h = refl
and_left false b h = absurd (cc)

pub and_right : (a b : Bool) → (a && b) ≡ true → b ≡ true
and_right true b h = h
and_right false b h = absurd (cc)

-- where each byte passes, the run is the whole text
pub all_run : (p : ℕ → Bool) (s : List ℕ) → list_all p s ≡ true → prefix_len p s ≡ length s
all_run p [] h = refl
all_run p (b ∷ s) h = let e : prefix_len p s ≡ length s = all_run p s (and_right (p b) (list_all p s) h) in rw (and_left (p b) (list_all p s) h) (omega arith)

-- each byte of a run passes
pub run_all : (p : ℕ → Bool) (z : List ℕ) → list_all p (take (prefix_len p z) z) ≡ true
run_all p [] = refl
run_all p (b ∷ z) = elim (cases_Bool (p b)) [
  | inl y ↦ (let e : 1 + prefix_len p z ≡ suc (prefix_len p z) = omega arith in rw (y, e, y) (run_all p z))
  | inr n ↦ rw n refl
]

-- and the byte behind it doesn't
pub run_stops : (p : ℕ → Bool) (z : List ℕ) → p 0 ≡ false → p (get_or z (prefix_len p z) 0) ≡ false
run_stops p [] h = h
run_stops p (b ∷ z) h = elim (cases_Bool (p b)) [
  | inl y ↦ (let e : 1 + prefix_len p z ≡ suc (prefix_len p z) = omega arith in rw (y, e) (run_stops p z h))
  | inr n ↦ rw n n
]
