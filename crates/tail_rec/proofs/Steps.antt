-- One step of the walk: what is reached behind a block.
use Rattle.std.proofs.Common.{◌≡◌, ◌⊎◌, ℕ, suc, ◌<◌, ◌≤◌, Bool, true, false, cond, List, [], ◌∷◌, ◌++◌, refl, sym, ap, ◌∙◌, subst, inl, inr, arith}
use Rattle.std.specs.Prelude.{nat_lt}
use Rattle.std.proofs.lemmas.Bool.{ltb-true, ltb-false}
use Rattle.block_forms.specs.Places.{In}
use Rattle.call_forms.specs.declared.forms.CallEnd.{CallEnd}
use Rattle.call_forms.specs.declared.forms.CallEnd.TheVariants.{Go, Pick, Return, Fail}
use Rattle.call_forms.specs.Merged.{end_calls}
use Rattle.call_forms.specs.Tight.{DepthAfter}
use Rattle.tail_rec.specs.declared.walk.Reached.{Reached}
use Rattle.tail_rec.specs.Walk.{reached, behind_test, followed, picked, after_end, after}
use Rattle.tail_rec.proofs.Lists.{in_left, in_right, from_both, KeysDiffer, differ_both}
use Rattle.tail_rec.proofs.OneCaller.{both_arms}

abbrev pub block_of : Reached → ℕ
block_of r = r.block

-- r is reached with a depth of its own, or as a label in place of a depth of sixteen, where a block with this depth ends so
pub data How (e : CallEnd) (depth : ℕ) (r : Reached) : Type 0 where
  goes_on : r.is_label ≡ false → (depth < 16 → r.depth < 16) → DepthAfter e r.block depth r.depth → How e depth r
  stops : r.is_label ≡ true → r.depth ≡ 0 → 15 ≤ depth → DepthAfter e r.block depth (suc depth) → How e depth r

-- r is reached behind an arm
data Arm (b d : ℕ) (r : Reached) : Type 0 where
  lower : b ≡ r.block → r.is_label ≡ false → d < 15 → r.depth ≡ suc d → Arm b d r
  label : b ≡ r.block → r.is_label ≡ true → 15 ≤ d → r.depth ≡ 0 → Arm b d r

arm_is : (b d : ℕ) (r : Reached) → behind_test b d ≡ r → Arm b d r
arm_is b d r e = by (nat_lt d 15) refl e
  where
    by : (t : Bool) → nat_lt d 15 ≡ t → cond t (reached b (suc d) false) (reached b 0 true) ≡ r → Arm b d r
    by true h q = lower (ap (λ (x : Reached). x.block) q) (sym (ap (λ (x : Reached). x.is_label) q)) (ltb-true d 15 h) (sym (ap (λ (x : Reached). x.depth) q))
    by false h q = label (ap (λ (x : Reached). x.block) q) (sym (ap (λ (x : Reached). x.is_label) q)) (ltb-false d 15 h) (sym (ap (λ (x : Reached). x.depth) q))

-- an arm goes on by the test that has it
by_arm : (e : CallEnd) (b d : ℕ) (r : Reached) → ((depth : ℕ) → depth ≡ suc d → DepthAfter e r.block d depth) → Arm b d r → How e d r
by_arm e b d r after (lower same is lt deep) = goes_on is (λ q. omega (arith, lt, deep)) (after r.depth deep)
by_arm e b d r after (label same is le deep) = stops is deep le (after (suc d) refl)

arm_block : (b d : ℕ) (r : Reached) → Arm b d r → b ≡ r.block
arm_block b d r (lower same is lt deep) = same
arm_block b d r (label same is le deep) = same

module _ (firm : ℕ → Bool) where
  -- ---- what is reached

  pub record Found (e : CallEnd) (depth : ℕ) (r : Reached) : Type 0 where
    pub not_firm : firm r.block ≡ false
    pub how : How e depth r

  from_followed : (d b : ℕ) (r : Reached) → In (followed firm d b) r → (firm b ≡ false) × (reached b d false ≡ r)
  from_followed d b r i = by (firm b) refl i
    where
      by : (t : Bool) → firm b ≡ t → In (cond t [] (reached b d false ∷ [])) r → (firm b ≡ false) × (reached b d false ≡ r)
      by true e i = absurd i
      by false e (inl q) = (e, q)
      by false e (inr i) = absurd i

  from_picked : (d b : ℕ) (r : Reached) → In (picked firm d b) r → (firm b ≡ false) × Arm b d r
  from_picked d b r i = by (firm b) refl i
    where
      by : (t : Bool) → firm b ≡ t → In (cond t [] (behind_test b d ∷ [])) r → (firm b ≡ false) × Arm b d r
      by true e i = absurd i
      by false e (inl q) = (e, arm_is b d r q)
      by false e (inr i) = absurd i

  pub found : (e : CallEnd) (d : ℕ) (r : Reached) → In (after_end firm d e) r → Found e d r
  found (Go c) d r i =
      let f = from_followed d c.target r i in
      let same = ap (λ (x : Reached). x.block) f.1 in
      let deep = ap (λ (x : Reached). x.depth) f.1 in
      record {
        not_firm = subst (λ b. firm b ≡ false) same f.0;
        how = goes_on (sym (ap (λ (x : Reached). x.is_label) f.1)) (λ lt. omega (arith, lt, deep)) (same, sym deep);
      }
  found (Pick t x y) d r i = elim (from_both (picked firm d x.target) (picked firm d y.target) r i) [
    | inl j ↦
        let f = from_picked d x.target r j in
        let same = arm_block x.target d r f.1 in
        record { not_firm = subst (λ b. firm b ≡ false) same f.0; how = by_arm (Pick t x y) x.target d r (λ depth deep. (inl same, deep)) f.1 }
    | inr j ↦
        let f = from_picked d y.target r j in
        let same = arm_block y.target d r f.1 in
        record { not_firm = subst (λ b. firm b ≡ false) same f.0; how = by_arm (Pick t x y) y.target d r (λ depth deep. (inr same, deep)) f.1 }
  ]
  found (Return t) d r i = absurd i
  found (Fail c) d r i = absurd i

  -- ---- what has a depth is reached

  -- b is reached with the depth d, or as a label where d is sixteen
  abbrev pub ReachedAt : List Reached → ℕ → ℕ → Type 0
  ReachedAt rs b d = In rs (reached b d false) ⊎ In rs (reached b 0 true)

  in_followed : (d b : ℕ) → firm b ≡ false → In (followed firm d b) (reached b d false)
  in_followed d b e = subst (λ t. In (cond t [] (reached b d false ∷ [])) (reached b d false)) (sym e) (inl refl)

  in_picked : (d b : ℕ) → firm b ≡ false → ReachedAt (picked firm d b) b (suc d)
  in_picked d b e = subst (λ t. ReachedAt (cond t [] (behind_test b d ∷ [])) b (suc d)) (sym e) (by (nat_lt d 15))
    where
      by : (t : Bool) → ReachedAt (cond t (reached b (suc d) false) (reached b 0 true) ∷ []) b (suc d)
      by true = inl (inl refl)
      by false = inr (inl refl)

  reached_left : (rs us : List Reached) (b d : ℕ) → ReachedAt rs b d → ReachedAt (rs ++ us) b d
  reached_left rs us b d (inl i) = inl (in_left rs us (reached b d false) i)
  reached_left rs us b d (inr i) = inr (in_left rs us (reached b 0 true) i)

  reached_right : (rs us : List Reached) (b d : ℕ) → ReachedAt us b d → ReachedAt (rs ++ us) b d
  reached_right rs us b d (inl i) = inl (in_right rs us (reached b d false) i)
  reached_right rs us b d (inr i) = inr (in_right rs us (reached b 0 true) i)

  pub has : (e : CallEnd) (above b d : ℕ) → firm b ≡ false → DepthAfter e b above d → ReachedAt (after_end firm above e) b d
  has (Go c) above b d open_block h =
      subst (λ d. ReachedAt (followed firm above c.target) b d) (sym h.1)
      (subst (λ b. ReachedAt (followed firm above c.target) b above) h.0
      (inl (in_followed above c.target (subst (λ b. firm b ≡ false) (sym h.0) open_block))))
  has (Pick t x y) above b d open_block h =
      subst (λ d. ReachedAt (picked firm above x.target ++ picked firm above y.target) b d) (sym h.1)
      (elim h.0 [
        | inl q ↦ reached_left (picked firm above x.target) (picked firm above y.target) b (suc above)
            (subst (λ b. ReachedAt (picked firm above x.target) b (suc above)) q
            (in_picked above x.target (subst (λ b. firm b ≡ false) (sym q) open_block)))
        | inr q ↦ reached_right (picked firm above x.target) (picked firm above y.target) b (suc above)
            (subst (λ b. ReachedAt (picked firm above y.target) b (suc above)) q
            (in_picked above y.target (subst (λ b. firm b ≡ false) (sym q) open_block)))
      ])
  has (Return t) above b d open_block h = absurd h
  has (Fail c) above b d open_block h = absurd h

  -- ---- two arms reach different blocks

  one_differs : (b : Bool) (r : Reached) → KeysDiffer block_of (cond b [] (r ∷ []))
  one_differs true r = tt
  one_differs false r = ((λ y i e. i), tt)

  pub end_differs : (e : CallEnd) (d : ℕ) → ((b : ℕ) → firm b ≡ false → 2 ≤ end_calls b e → ⊥) → KeysDiffer block_of (after_end firm d e)
  end_differs (Go c) d few = one_differs (firm c.target) (reached c.target d false)
  end_differs (Pick t x y) d few =
      differ_both block_of (picked firm d x.target) (picked firm d y.target) (one_differs (firm x.target) (behind_test x.target d))
      (one_differs (firm y.target) (behind_test y.target d)) (λ r u i j e.
      let f = from_picked d x.target r i in
      let h = from_picked d y.target u j in
      few x.target f.0 (both_arms x.target x.target y.target refl (arm_block y.target d u h.1 ∙ sym e ∙ sym (arm_block x.target d r f.1))))
  end_differs (Return t) d few = tt
  end_differs (Fail c) d few = tt
