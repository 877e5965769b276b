-- Each name of the full form beyond the slots' own is that of a φ or of an assignment.
use Rattle.std.proofs.Common.{◌≡◌, ◌⊎◌, ℕ, zero, suc, ◌+◌, ◌<◌, ◌≤◌, ◌-◌, Bool, true, false, cond, List, [], ◌∷◌, ◌++◌, length, length-append, slice_get, Option, Some, None, refl, ap, ◌∙◌, inl, inr, arith}
use Rattle.std.proofs.lemmas.List.Elements.{filter-append}
use Rattle.std.specs.List.{filter}
use Rattle.ssa_build.specs.declared.layout.Layout.{Layout}
use Rattle.ssa_build.specs.Forms.{Block, Term}
use Rattle.block_graph.specs.Ranges.{count_from}
use Rattle.ssa_build.specs.Names.{assigned, has_phi, names_below, next_name, phi_slots, set_slots}
use Rattle.block_graph.proofs.Lists.{within_or_past}
use Rattle.block_graph.proofs.Ranges.{count_more}
use Rattle.ssa_build.proofs.Ordered.{length_count}

module _ (p : ℕ → Bool) where
  abbrev passed : ℕ → List ℕ
  passed n = filter p (count_from 0 n)

  passed_more : (n : ℕ) → length (passed (suc n)) ≡ length (passed n) + length (filter p (n ∷ []))
  passed_more n =
      ap (λ v. length (passed v)) (let e : suc n ≡ n + 1 = omega arith in e) ∙ ap (λ l. length (filter p l)) (count_more n)
      ∙ ap length (filter-append p (count_from 0 n) (n ∷ [])) ∙ length-append (passed n) (filter p (n ∷ []))

  -- at each place among the numbers that pass stands one that does, behind those before it
  pub passed_back : (n j : ℕ) → j < length (passed n) → (s : ℕ) × (s < n) × (p s ≡ true) × (length (passed s) ≡ j)
  passed_back zero j lt = absurd (let no : ⊥ = omega (arith, lt) in no)
  passed_back (suc n) j lt = go (p n) refl (within_or_past j (length (passed n))) (passed_back n j)
    where
      last : (c : Bool) → p n ≡ c → length (filter p (n ∷ [])) ≡ length (cond c (n ∷ []) [])
      last c e = ap (λ v. length (cond v (n ∷ []) [])) e

      go : (c : Bool) → p n ≡ c → (j < length (passed n)) ⊎ (length (passed n) ≤ j) → (j < length (passed n) → (s : ℕ) × (s < n) × (p s ≡ true) × (length (passed s) ≡ j)) → (s : ℕ) × (s < suc n) × (p s ≡ true) × (length (passed s) ≡ j)
      go c e (inl less) rest = let r = rest less in (r.0, (let q = r.1 in omega (arith, q)), r.2, r.3)
      go true e (inr le) rest = let m = passed_more n in let k : length (filter p (n ∷ [])) ≡ 1 = last true e in (n, omega arith, e, omega (arith, m, k, le, lt))
      go false e (inr le) rest = let m = passed_more n in let k : length (filter p (n ∷ [])) ≡ 0 = last false e in absurd (let no : ⊥ = omega (arith, m, k, le, lt) in no)

module _ (l : Layout) (live : ℕ → ℕ → Bool) (g : List Block) where
  -- the name of a φ of the first blocks
  abbrev pub IsOfPhi : ℕ → ℕ → Type 0
  IsOfPhi blocks n = (b : ℕ) × (s : ℕ) × (b < blocks) × (s < l.slots) × (has_phi l live b s ≡ true) × (next_name l live g b s ≡ n)

  -- the name of an assignment of the first blocks
  abbrev pub IsOfSet : ℕ → ℕ → Type 0
  IsOfSet blocks n = (b : ℕ) × (x : Block) × (a : ℕ × Term) × (b < blocks) × (slice_get g b ≡ Some x) × (x.set ≡ Some a) × (next_name l live g b l.slots ≡ n)

  abbrev Traced : ℕ → ℕ → Type 0
  Traced blocks n = IsOfPhi blocks n ⊎ IsOfSet blocks n

  abbrev first : ℕ → ℕ
  first b = length (names_below l live g b)

  abbrev phis : ℕ → ℕ
  phis b = length (phi_slots l live b l.slots)

  assigned_at : (b : ℕ) → 0 < length (assigned (slice_get g b)) → (x : Block) × (a : ℕ × Term) × (slice_get g b ≡ Some x) × (x.set ≡ Some a)
  assigned_at b lt = go (slice_get g b) refl lt
    where
      by : (x : Block) (o : Option (ℕ × Term)) → x.set ≡ o → 0 < length (set_slots o) → (a : ℕ × Term) × (x.set ≡ Some a)
      by x None e h = absurd (let no : ⊥ = omega (arith, h) in no)
      by x (Some a) e h = (a, e)

      go : (o : Option Block) → slice_get g b ≡ o → 0 < length (assigned o) → (x : Block) × (a : ℕ × Term) × (slice_get g b ≡ Some x) × (x.set ≡ Some a)
      go None e h = absurd (let no : ⊥ = omega (arith, h) in no)
      go (Some x) e h = let r = by x x.set refl h in (x, r.0, e, r.1)

  set_few : (b : ℕ) → length (assigned (slice_get g b)) ≤ 1
  set_few b = go (slice_get g b)
    where
      by : (o : Option (ℕ × Term)) → length (set_slots o) ≤ 1
      by None = omega arith
      by (Some a) = omega arith

      go : (o : Option Block) → length (assigned o) ≤ 1
      go None = omega arith
      go (Some x) = by x.set

  more : (c : ℕ) → first (suc c) ≡ first c + (phis c + length (assigned (slice_get g c)))
  more c = length-append (names_below l live g c) (phi_slots l live c l.slots ++ assigned (slice_get g c)) ∙ ap (λ v. first c + v) (length-append (phi_slots l live c l.slots) (assigned (slice_get g c)))

  -- a name of the last block
  here : (c n : ℕ) → first c ≤ n → n < first (suc c) → Traced (suc c) n
  here c n past lt = go (within_or_past (n - first c) (phis c))
    where
      go : (n - first c < phis c) ⊎ (phis c ≤ n - first c) → Traced (suc c) n
      go (inl less) =
          let r = passed_back (has_phi l live c) l.slots (n - first c) less in
          inl (c, r.0, omega arith, r.1, r.2, (let e = r.3 in omega (arith, e, past)))
      go (inr behind) =
          let m = more c in
          let r = assigned_at c (omega (arith, m, lt, past, behind)) in
          let few = set_few c in
          inr (c, r.0, r.1, omega arith, r.2, r.3, omega (arith, m, lt, past, behind, few))

  pub traced : (blocks n : ℕ) → l.slots ≤ n → n < first blocks → IsOfPhi blocks n ⊎ IsOfSet blocks n
  traced zero n le lt = let e = length_count 0 l.slots in absurd (let no : ⊥ = omega (arith, le, lt, e) in no)
  traced (suc c) n le lt = go (within_or_past n (first c)) (traced c n le)
    where
      go : (n < first c) ⊎ (first c ≤ n) → (n < first c → Traced c n) → Traced (suc c) n
      go (inl less) rest = elim (rest less) [
        | inl r ↦ inl (r.0, r.1, (let q = r.2 in omega (arith, q)), r.3, r.4, r.5)
        | inr r ↦ inr (r.0, r.1, r.2, (let q = r.3 in omega (arith, q)), r.4, r.5, r.6)
      ]
      go (inr past) rest = here c n past lt
