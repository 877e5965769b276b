-- A form whose names are set has few of them.
use Rattle.std.proofs.Common.{◌≡◌, ◌⊎◌, ℕ, ◌+◌, ◌*◌, ◌-◌, ◌<◌, ◌≤◌, length, get_or, slice_get, Option, Some, None, refl, sym, ap, ◌∙◌, subst, inl, inr, arith}
use Rattle.std.proofs.lemmas.Option.{get_or_from_slice_get}
use Rattle.block_forms.specs.Forms.{Pairs}
use Rattle.block_forms.specs.Named.{Maps, Named, places_that_set}
use Rattle.block_forms.specs.Places.{Distinct}
use Rattle.ssa_build.specs.FewNames.{NamesAreFew}
use Rattle.ssa_build.specs.Forms.{Goto, Phi, Ssa, SsaBlock}
use Rattle.ssa_build.specs.SetNames.{NamesAreSet}
use Rattle.ssa_build.proofs.DistinctKeys.{few_keys}
use Rattle.block_graph.proofs.Lists.{within_or_past}
use Rattle.ssa_build.proofs.Totals.{total, total_ones, total_places}

mapped_there : (m : Pairs) (o : Option ℕ) (n : ℕ) → Maps m o n → (s : ℕ) × (o ≡ Some s)
mapped_there m None n h = absurd h
mapped_there m (Some s) n h = (s, refl)

module _ (slots params : ℕ) (g : Goto) (z : Ssa) (named : Named slots params g z) where
  -- the slot of a φ's name
  slot_of : (b i : ℕ) (y : SsaBlock) (φ : Phi) → slice_get z.blocks b ≡ Some y → slice_get y.phis i ≡ Some φ → (s : ℕ) × (slice_get z.names φ.name ≡ Some s) × (s < slots)
  slot_of b i y φ at h =
      let r = mapped_there y.map (slice_get z.names φ.name) φ.name ((named.maps b y at).phis_mapped i φ h) in
      (r.0, r.1, named.names.of_slots φ.name r.0 r.1)

  abbrev slot : Phi → ℕ
  slot φ = get_or z.names φ.name 0

  slot_is : (b i : ℕ) (y : SsaBlock) (φ : Phi) → slice_get z.blocks b ≡ Some y → slice_get y.phis i ≡ Some φ → slice_get z.names φ.name ≡ Some (slot φ)
  slot_is b i y φ at h = let r = slot_of b i y φ at h in r.1 ∙ ap Some (sym (get_or_from_slice_get z.names φ.name r.0 0 r.1))

  -- the φs of a block have distinct slots
  few_phis : (b : ℕ) (y : SsaBlock) → slice_get z.blocks b ≡ Some y → length y.phis ≤ slots
  few_phis b y at = few_keys slot y.phis slots below apart
    where
      below : (i : ℕ) (φ : Phi) → slice_get y.phis i ≡ Some φ → slot φ < slots
      below i φ h = named.names.of_slots φ.name (slot φ) (slot_is b i y φ at h)

      apart : Distinct slot y.phis
      apart i φ h = record { others = λ j χ k lt e. ((named.maps b y at).phi_slots_differ i φ h).others j χ k lt (slot_is b j y χ at k ∙ ap Some e ∙ sym (slot_is b i y φ at h)) }

  few_names : NamesAreSet slots z → length z.names ≤ slots + length g.blocks * (slots + 1)
  few_names set = go (within_or_past (length z.names) slots)
    where
      go : (length z.names < slots) ⊎ (slots ≤ length z.names) → length z.names ≤ slots + length g.blocks * (slots + 1)
      go (inl less) = omega (arith, less)
      go (inr le) =
          let more = length z.names - slots in
          let ones : total (places_that_set z.blocks) slots more ≡ more = total_ones (places_that_set z.blocks) slots more (λ k past lt. set.set k past (omega (arith, lt, le))) in
          let most : total (places_that_set z.blocks) slots more ≤ length g.blocks * (slots + 1) = subst (λ v. total (places_that_set z.blocks) slots more ≤ v * (slots + 1)) named.as_many_blocks (total_places slots z.blocks slots more few_phis) in
          omega (arith, ones, most, le)

pub names_few : NamesAreFew
names_few = λ slots params g z named set. few_names slots params g z named set
