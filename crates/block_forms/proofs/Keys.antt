-- What the first pair with a key has.
use Rattle.std.proofs.Common.{◌≡◌, ◌≢◌, ℕ, zero, suc, ◌+◌, ◌<◌, Bool, true, false, cond, [], ◌∷◌, length, get_or, drop, Some, refl, ap, ◌∙◌, subst, arith}
use Rattle.std.specs.Prelude.{slice_get, nat_eq}
use Rattle.std.proofs.lemmas.Bool.{eqb-true, eq-eqb, ne_eqb}
use Rattle.block_forms.specs.Forms.{Pairs, at_key}
use Rattle.block_forms.specs.Places.{Each}

-- a pair with this key and this value, at some place
pub record Stands (m : Pairs) (k v : ℕ) : Type 0 where
  pub place : ℕ
  pub pair : ℕ × ℕ
  pub there : slice_get m place ≡ Some pair
  pub key : pair.0 ≡ k
  pub value : pair.1 ≡ v

pub at_key_stands : (m : Pairs) (k v : ℕ) → at_key m k ≡ Some v → Stands m k v
at_key_stands [] k v e = absurd (cc)
at_key_stands (p ∷ ps) k v e = go (nat_eq p.0 k) refl e (λ e. at_key_stands ps k v e)
  where
    go : (b : Bool) → nat_eq p.0 k ≡ b → cond b (Some p.1) (at_key ps k) ≡ Some v → (at_key ps k ≡ Some v → Stands ps k v) → Stands (p ∷ ps) k v
    go true h e rec = record { place = 0; pair = p; there = refl; key = eqb-true p.0 k h; value = cc }
    go false h e rec = let r = rec e in record { place = suc r.place; pair = r.pair; there = r.there; key = r.key; value = r.value }

-- what holds of each pair holds of the one with the key
pub each_at_key : (P : ℕ → ℕ → Type 0) (m : Pairs) (k v : ℕ) → Each (λ p. P p.0 p.1) m → at_key m k ≡ Some v → P k v
each_at_key P m k v each e =
    let s = at_key_stands m k v e in
    subst (λ v. P k v) s.value (subst (λ k. P k s.pair.1) s.key (each s.place s.pair s.there))

-- the pair at a place of the list
pub at_key_here : (m : Pairs) (i k : ℕ) → i < length m → (get_or m i (0, 0)).0 ≡ k → at_key (drop i m) k ≡ Some (get_or m i (0, 0)).1
at_key_here [] i k lt h = absurd (omega arith)
at_key_here (p ∷ ps) zero k lt h = rw (eq-eqb p.0 k h) refl
at_key_here (p ∷ ps) (suc i) k lt h = at_key_here ps i k (omega arith) h

-- what stands after a pair with another key
pub at_key_after : (m : Pairs) (i k : ℕ) → i < length m → (get_or m i (0, 0)).0 ≢ k → at_key (drop i m) k ≡ at_key (drop (i + 1) m) k
at_key_after [] i k lt h = absurd (omega arith)
at_key_after (p ∷ ps) zero k lt h = rw (ne_eqb p.0 k h) refl
at_key_after (p ∷ ps) (suc i) k lt h =
    at_key_after ps i k (omega arith) h ∙ ap (λ j. at_key (drop j (p ∷ ps)) k) (let e : suc (i + 1) ≡ suc i + 1 = omega arith in e)
