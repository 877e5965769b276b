-- By the names that they are merged into, renumbered.
use Rattle.std.proofs.Common.{◌≡◌, ◌⊎◌, ℕ, ◌≤◌, List, [], ◌∷◌, slice_get, Some, refl, sym, ap, ◌∙◌, subst, inl, inr}
use Rattle.ssa_build.specs.Forms.{Block, Phi, Ssa, SsaBlock}
use Rattle.block_forms.specs.Places.{In}
use Rattle.ssa_build.specs.Merging.{is_end}
use Rattle.block_forms.specs.Trivial.{HasNoTrivial, IsTrivial}
use Rattle.ssa_build.proofs.Keeping.{each_block}
use Rattle.block_graph.proofs.Lists.{compared, in_map, other_number, same_number}
use Rattle.ssa_build.proofs.Merges.{JoinsOnly, Merges, Renames, Renumbers, SetsStaying, replaced, replaced_block, replaced_in, replaced_phi}
use Rattle.ssa_build.proofs.Naming.{IsNamed, Sets}
use Rattle.ssa_build.proofs.OfSlots.{assigned_slot, operand_slot}
use Rattle.ssa_build.proofs.Replacing.{phi_back}

module _ (slots params entry : ℕ) (g : List Block) (z : Ssa) (names : List ℕ) (into number : ℕ → ℕ) (named : IsNamed slots params entry g z) (merges : Merges params z into) (renumbers : Renumbers slots params z.names names into number) where
  abbrev τ : ℕ → ℕ
  τ n = number (into n)

  kept_slot : (n s : ℕ) → slice_get z.names n ≡ Some s → slice_get names (τ n) ≡ Some s
  kept_slot n s h = renumbers.slot_kept (into n) s (merges.settled n) (merges.slot_kept n ∙ h)

  -- a name that is set and stays is merged into no other
  ends_here : (b : ℕ) (x : SsaBlock) (n : ℕ) → slice_get z.blocks b ≡ Some x → SetsStaying (is_end into) x n → into n ≡ n
  ends_here b x n at (inl p) = same_number (into n) n p.1
  ends_here b x n at (inr a) = merges.assigned_kept b x n at a

  set_slot : (b : ℕ) (x : SsaBlock) (n : ℕ) → slice_get z.blocks b ≡ Some x → SetsStaying (is_end into) x n → (s : ℕ) × (slice_get z.names n ≡ Some s)
  set_slot b x n at (inl p) = let r = named.phi_map b x p.0.0 at p.0.1 in (r.0, ap (slice_get z.names) (sym p.0.2) ∙ r.1)
  set_slot b x n at (inr a) = assigned_slot slots params entry g z named b x at n a

  above : (b : ℕ) (x : SsaBlock) (n : ℕ) → slice_get z.blocks b ≡ Some x → SetsStaying (is_end into) x n → params ≤ τ n
  above b x n at h =
      let e = ends_here b x n at h in
      let s = set_slot b x n at h in
      subst (λ v. params ≤ number v) (sym e) (renumbers.above n s.0 e s.1 (named.unset b x n at (before h)))
    where
      before : SetsStaying (is_end into) x n → Sets x n
      before (inl p) = inl p.0
      before (inr a) = inr a

  apart : (b c : ℕ) (x y : SsaBlock) (n m : ℕ) → slice_get z.blocks b ≡ Some x → slice_get z.blocks c ≡ Some y → SetsStaying (is_end into) x n → SetsStaying (is_end into) y m → τ n ≡ τ m → n ≡ m
  apart b c x y n m atb atc h k e =
      let p = ends_here b x n atb h in
      let q = ends_here c y m atc k in
      let s = set_slot b x n atb h in
      let t = set_slot c y m atc k in
      renumbers.apart n m s.0 t.0 p q s.1 t.1 (sym (ap number p) ∙ e ∙ ap number q)

  pub merged_renames : Renames slots params z names (λ n. number (into n)) (is_end into)
  merged_renames = record {
    of_slots = renumbers.of_slots;
    parameter = λ i lt. let r = renumbers.parameter i lt in (r.0, ap number (merges.parameter_kept i lt) ∙ r.1);
    slot_kept = kept_slot;
    above = above;
    apart = apart;
    joined = λ b x φ o at i moved j. ap number (merges.joined b x φ o at i (other_number (into φ.name) φ.name moved) j);
  }

  -- the new names of operands tell the old ones apart
  same_old : (b : ℕ) (x : SsaBlock) (φ : Phi) → slice_get z.blocks b ≡ Some x → In x.phis φ → (n m : ℕ) → ((n ≡ φ.name) ⊎ ((o : ℕ × ℕ) × In φ.operands o × (o.1 ≡ n))) → ((m ≡ φ.name) ⊎ ((o : ℕ × ℕ) × In φ.operands o × (o.1 ≡ m))) → τ n ≡ τ m → into n ≡ into m
  same_old b x φ at i n m p q e =
      let s = slot_in n p in
      let t = slot_in m q in
      renumbers.apart (into n) (into m) s.0 t.0 (merges.settled n) (merges.settled m) (merges.slot_kept n ∙ s.1) (merges.slot_kept m ∙ t.1) e
    where
      slot_in : (n : ℕ) → ((n ≡ φ.name) ⊎ ((o : ℕ × ℕ) × In φ.operands o × (o.1 ≡ n))) → (s : ℕ) × (slice_get z.names n ≡ Some s)
      slot_in n (inl e) = let r = named.phi_map b x φ at i in (r.0, ap (slice_get z.names) e ∙ r.1)
      slot_in n (inr o) = let r = operand_slot slots params entry g z named b x φ o.0 at i o.1 in (r.0, ap (slice_get z.names) (sym o.2) ∙ r.1)

  -- an operand that is merged into another name than n, if there is one
  other_operand : (os : List (ℕ × ℕ)) (n : ℕ) → ((o : ℕ × ℕ) → In os o → into o.1 ≡ n) ⊎ ((o : ℕ × ℕ) × In os o × (into o.1 ≡ n → ⊥))
  other_operand [] n = inl (λ o i. absurd i)
  other_operand (p ∷ ps) n = go (compared (into p.1) n) (other_operand ps n)
    where
      go : (into p.1 ≡ n) ⊎ (into p.1 ≡ n → ⊥) → ((o : ℕ × ℕ) → In ps o → into o.1 ≡ n) ⊎ ((o : ℕ × ℕ) × In ps o × (into o.1 ≡ n → ⊥)) → ((o : ℕ × ℕ) → In (p ∷ ps) o → into o.1 ≡ n) ⊎ ((o : ℕ × ℕ) × In (p ∷ ps) o × (into o.1 ≡ n → ⊥))
      go (inr differ) rest = inr (p, inl refl, differ)
      go (inl e) (inl all) = inl (λ o i. elim i [ inl q ↦ ap (λ (r : ℕ × ℕ). into r.1) (sym q) ∙ e | inr j ↦ all o j ])
      go (inl e) (inr r) = inr (r.0, inr r.1, r.2)

  old_name : (b : ℕ) (x : SsaBlock) (φ : Phi) → slice_get z.blocks b ≡ Some x → In x.phis φ → into φ.name ≡ φ.name → (k : ℕ) → ((o : ℕ × ℕ) → In φ.operands o → (τ o.1 ≡ τ φ.name) ⊎ (τ o.1 ≡ k)) → (m : ℕ) × JoinsOnly into φ m
  old_name b x φ at i e k only = go (other_operand φ.operands φ.name)
    where
      self : (o : ℕ × ℕ) → In φ.operands o → τ o.1 ≡ τ φ.name → into o.1 ≡ φ.name
      self o j q = same_old b x φ at i o.1 φ.name (inr (o, j, refl)) (inl refl) q ∙ e

      go : ((o : ℕ × ℕ) → In φ.operands o → into o.1 ≡ φ.name) ⊎ ((o : ℕ × ℕ) × In φ.operands o × (into o.1 ≡ φ.name → ⊥)) → (m : ℕ) × JoinsOnly into φ m
      go (inl all) = (φ.name, λ o j. inl (all o j))
      go (inr p) = (
        into p.0.1,
        λ o j. elim (only o j) [
          | inl q ↦ inl (self o j q)
          | inr q ↦ elim (only p.0 p.1) [
            | inl h ↦ absurd (p.2 (self p.0 p.1 h))
            | inr h ↦ inr (same_old b x φ at i o.1 p.0.1 (inr (o, j, refl)) (inr (p.0, p.1, refl)) (q ∙ sym h))
          ]
        ],
      )

  -- a new name of a φ that is joined alone would be an old one
  pub ends_reduced : ((b : ℕ) (x : SsaBlock) (φ : Phi) (m : ℕ) → slice_get z.blocks b ≡ Some x → In x.phis φ → into φ.name ≡ φ.name → JoinsOnly into φ m → ⊥) → HasNoTrivial (replaced (λ n. number (into n)) (is_end into) names z)
  ends_reduced none b y ψ at = each_block (λ n. number (into n)) (is_end into) names z (λ b y. In y.phis ψ → IsTrivial ψ → ⊥) on b y at
    where
      on : (b : ℕ) (x : SsaBlock) → slice_get z.blocks b ≡ Some x → In (replaced_block (λ n. number (into n)) (is_end into) x).phis ψ → IsTrivial ψ → ⊥
      on b x at i t =
          let r = phi_back τ (is_end into) x ψ i in
          let t' : IsTrivial (replaced_phi τ (is_end into) r.0) = subst IsTrivial (sym r.3) t in
          let e = same_number (into r.0.name) r.0.name r.2 in
          let m = old_name b x r.0 at r.1 e t'.0 (λ o j. t'.1 (replaced_in τ (is_end into) o) (in_map (replaced_in τ (is_end into)) r.0.operands o j)) in
          none b x r.0 m.0 at r.1 e m.1
