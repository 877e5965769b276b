-- A try at each join in turn.
use Rattle.std.proofs.Common.{◌≡◌, ◌⊎◌, ℕ, suc, ◌+◌, ◌≤◌, Bool, true, false, List, [], ◌∷◌, length, slice_get, Some, refl, sym, subst, inl, inr, arith, nat_eq}
use Rattle.ssa_build.specs.Joins.{IsReduced, Join, Merging, Settled, Swept, one_if, roots}

-- joins at some places were tried
abbrev pub Sweeping : List ℕ → List Join → List ℕ → List ℕ → ℕ → ℕ → (ℕ → Type 0) → Type 0
Sweeping slots joins old into merges count tried =
    Merging slots joins into count × (roots into 0 + count ≡ roots old 0 + merges) × (merges ≤ count) × (count ≡ merges → (i : ℕ) (j : Join) → tried i → slice_get joins i ≡ Some j → IsReduced into merges j)

module _ (slots : List ℕ) (joins : List Join) (old into : List ℕ) (merges count : ℕ) (tried : ℕ → Type 0) (so : Sweeping slots joins old into merges count tried) (at : ℕ) (new : List ℕ) (now : ℕ → Type 0) where
  pub swept_true : (b : Bool) → b ≡ true → Settled slots joins at into new count b → (after : ℕ) → after ≡ count + 1 → Sweeping slots joins old new merges after now
  swept_true b e s after is = (subst (λ v. Merging slots joins new v) (let q : suc count ≡ after = omega (arith, is) in q) s'.0, omega (arith, so.1, s'.1, is), omega (arith, so.2, is), λ same. absurd (let no : ⊥ = omega (arith, so.2, is, same) in no))
    where
      s' : Settled slots joins at into new count true
      s' = subst (λ v. Settled slots joins at into new count v) e s

  pub swept_false : ((i : ℕ) → now i → (i ≡ at) ⊎ tried i) → (b : Bool) → b ≡ false → Settled slots joins at into new count b → (after : ℕ) → after ≡ count → Sweeping slots joins old new merges after now
  swept_false one_more b e s after is =
      subst (λ v. Sweeping slots joins old v merges after now) (sym s'.0)
      (subst (λ v. Sweeping slots joins old into merges v now) (sym is) (so.0, so.1, so.2, λ same i j lt h. go same i j h (one_more i lt)))
    where
      s' : Settled slots joins at into new count false
      s' = subst (λ v. Settled slots joins at into new count v) e s

      go : count ≡ merges → (i : ℕ) (j : Join) → slice_get joins i ≡ Some j → (i ≡ at) ⊎ tried i → IsReduced into merges j
      go same i j h (inl q) = subst (λ v. IsReduced into v j) same (s'.1 j (subst (λ v. slice_get joins v ≡ Some j) q h))
      go same i j h (inr t) = so.3 same i j t h

pub swept : (slots : List ℕ) (joins : List Join) (old into : List ℕ) (merges count : ℕ) (tried : ℕ → Type 0) → ((i : ℕ) (j : Join) → slice_get joins i ≡ Some j → tried i) → Sweeping slots joins old into merges count tried → Swept slots joins old into merges count
swept slots joins old into merges count tried all so = record { merging = so.0; counted = so.1; more = so.2; reduced = λ same i j h. so.3 same i j (all i j h) h }

-- a sweep that merges nothing was the last
pub swept_last : (slots : List ℕ) (joins : List Join) (old new : List ℕ) (merges after : ℕ) → Swept slots joins old new merges after → after ≡ merges → Swept slots joins new new merges merges
swept_last slots joins old new merges after s e = record { merging = subst (λ v. Merging slots joins new v) e s.merging; counted = refl; more = omega arith; reduced = λ same i j h. s.reduced e i j h }

pub roots_most : (into : List ℕ) (i : ℕ) → roots into i ≤ length into
roots_most [] i = omega arith
roots_most (n ∷ ns) i = go (nat_eq n i) (roots_most ns (suc i))
  where
    go : (b : Bool) → roots ns (suc i) ≤ length ns → one_if b + roots ns (suc i) ≤ suc (length ns)
    go true le = omega arith
    go false le = omega arith
