-- From the φs of a form to joins and back.
use Rattle.std.proofs.Common.{◌≡◌, ◌≢◌, ◌⊎◌, ℕ, ◌<◌, ◌≤◌, List, length, get_or, slice_get, Some, sym, ap, ◌∙◌, subst, inl, inr, arith}
use Rattle.std.proofs.lemmas.Option.{slice_get-get_or, slice_get_within, get_or_from_slice_get}
use Rattle.std.proofs.lemmas.List.{get_or_past, get_or_default}
use Rattle.ssa_build.specs.Forms.{Block, Phi, Ssa, SsaBlock}
use Rattle.ssa_build.specs.Joins.{IsRoot, Join, Merged, WellFormed}
use Rattle.block_forms.specs.Places.{In}
use Rattle.ssa_build.specs.Merging.{is_end, replacing}
use Rattle.block_forms.specs.Trivial.{HasNoTrivial}
use Rattle.ssa_build.proofs.JoinsOf.{JoinsOf, operand}
use Rattle.ssa_build.proofs.Keeping.{keeps}
use Rattle.block_graph.proofs.Lists.{from_map, in_map, some_same, within_or_past}
use Rattle.ssa_build.proofs.Lists.{in_get_or, place_of}
use Rattle.ssa_build.proofs.Merges.{JoinsOnly, Merges, Renumbers, replaced}
use Rattle.ssa_build.proofs.Naming.{Assigns, IsNamed}
use Rattle.ssa_build.proofs.OfSlots.{operand_slot}
use Rattle.ssa_build.proofs.Renaming.{ends_reduced, merged_renames}

module _ (slots params entry : ℕ) (g : List Block) (z : Ssa) (named : IsNamed slots params entry g z) where
  module _ (joins : List Join) (of : JoinsOf z joins) where
    -- a name that has a slot, by place
    placed : (n s : ℕ) → slice_get z.names n ≡ Some s → (n < length z.names) × (get_or z.names n 0 ≡ s)
    placed n s e = (slice_get_within z.names n s e, get_or_from_slice_get z.names n s 0 e)

    name_slot : (i : ℕ) (j : Join) → slice_get joins i ≡ Some j → (s : ℕ) × (slice_get z.names j.name ≡ Some s)
    name_slot i j h =
        let p = of.phi i j h in
        let m = named.phi_map p.0 p.1 p.2 p.3 p.4 in
        (m.0, ap (slice_get z.names) (sym p.5.name) ∙ m.1)

    operand_of : (i : ℕ) (j : Join) (k : ℕ) → slice_get joins i ≡ Some j → k < length j.operands → (s : ℕ) × (slice_get z.names (get_or j.operands k 0) ≡ Some s) × (slice_get z.names j.name ≡ Some s)
    operand_of i j k h lt =
        let p = of.phi i j h in
        let m = from_map operand p.2.operands (get_or j.operands k 0) (subst (λ l. In l (get_or j.operands k 0)) (sym p.5.operands) (in_get_or j.operands k 0 lt)) in
        let r = operand_slot slots params entry g z named p.0 p.1 p.2 m.0 p.3 p.4 m.1 in
        (r.0, ap (slice_get z.names) (sym m.2) ∙ r.1, ap (slice_get z.names) (sym p.5.name) ∙ r.2)

    pub well_formed : WellFormed z.names joins
    well_formed = record {
      name = λ i j h. let r = name_slot i j h in (placed j.name r.0 r.1).0;
      spare = λ i j h. let r = name_slot i j h in let q = placed j.spare r.0 (of.spare i j h ∙ r.1) in (q.0, q.1 ∙ sym (placed j.name r.0 r.1).1);
      operand = λ i j k h lt. let r = operand_of i j k h lt in let q = placed (get_or j.operands k 0) r.0 r.1 in (q.0, q.1 ∙ sym (placed j.name r.0 r.2).1);
      distinct = of.distinct;
      spare_free = λ a b i j h k e. let p = of.phi b j k in of.spare_unset a i p.0 p.1 h p.3 (inl (p.2, p.4, p.5.name ∙ sym e));
    }

    module _ (into : List ℕ) (merged : Merged z.names joins into) where
      abbrev σ : ℕ → ℕ
      σ = replacing into

      σ_in : (n : ℕ) → n < length into → σ n ≡ get_or into n 0
      σ_in n lt = get_or_default into n n 0 lt

      σ_out : (n : ℕ) → length into ≤ n → σ n ≡ n
      σ_out n le = get_or_past into n n le

      inside : (n : ℕ) → (n < length into) ⊎ (length into ≤ n)
      inside n = within_or_past n (length into)

      root_σ : (n : ℕ) → n < length into → IsRoot into n → σ n ≡ n
      root_σ n lt r = σ_in n lt ∙ r

      settled : (n : ℕ) → σ (σ n) ≡ σ n
      settled n = go (inside n)
        where
          go : (n < length into) ⊎ (length into ≤ n) → σ (σ n) ≡ σ n
          go (inl lt) = let r = merged.settled n lt in ap σ (σ_in n lt) ∙ root_σ (get_or into n 0) r.0 r.1 ∙ sym (σ_in n lt)
          go (inr le) = ap σ (σ_out n le)

      by_place : (n : ℕ) → n < length into → slice_get z.names n ≡ Some (get_or z.names n 0)
      by_place n lt = slice_get-get_or z.names n 0 (subst (λ v. n < v) merged.sized lt)

      slot_kept : (n : ℕ) → slice_get z.names (σ n) ≡ slice_get z.names n
      slot_kept n = go (inside n)
        where
          go : (n < length into) ⊎ (length into ≤ n) → slice_get z.names (σ n) ≡ slice_get z.names n
          go (inl lt) = ap (slice_get z.names) (σ_in n lt) ∙ by_place (get_or into n 0) (merged.settled n lt).0 ∙ ap Some (merged.slot n lt) ∙ sym (by_place n lt)
          go (inr le) = ap (slice_get z.names) (σ_out n le)

      -- a name that no φ has stays
      free_stays : (n : ℕ) → ((b : ℕ) (x : SsaBlock) (φ : Phi) → slice_get z.blocks b ≡ Some x → In x.phis φ → φ.name ≡ n → ⊥) → σ n ≡ n
      free_stays n free = go (inside n)
        where
          go : (n < length into) ⊎ (length into ≤ n) → σ n ≡ n
          go (inl lt) = root_σ n lt (merged.kept n lt (λ i j h e. let p = of.phi i j h in free p.0 p.1 p.2 p.3 p.4 (p.5.name ∙ e)))
          go (inr le) = σ_out n le

      parameter_kept : (n : ℕ) → n < params → σ n ≡ n
      parameter_kept n lt = free_stays n (λ b x φ at i e. let le : params ≤ n = named.unset b x n at (inl (φ, i, e)) in omega (arith, lt, le))

      assigned_kept : (b : ℕ) (x : SsaBlock) (n : ℕ) → slice_get z.blocks b ≡ Some x → Assigns x.set n → σ n ≡ n
      assigned_kept b x n at a = free_stays n (λ c y φ h i e.
          let same : c ≡ b = named.once c b y x n h at (inl (φ, i, e)) (inr a) in
          let h' : slice_get z.blocks b ≡ Some y = subst (λ v. slice_get z.blocks v ≡ Some y) same h in
          named.apart b y n h' (φ, i, e) (subst (λ (v : SsaBlock). Assigns v.set n) (some_same (sym at ∙ h')) a))

      name_in : (i : ℕ) (j : Join) → slice_get joins i ≡ Some j → j.name < length into
      name_in i j h = subst (λ v. j.name < v) (sym merged.sized) (well_formed.name i j h)

      operand_in : (i : ℕ) (j : Join) (k : ℕ) → slice_get joins i ≡ Some j → k < length j.operands → get_or j.operands k 0 < length into
      operand_in i j k h lt = subst (λ v. get_or j.operands k 0 < v) (sym merged.sized) (well_formed.operand i j k h lt).0

      joined : (b : ℕ) (x : SsaBlock) (φ : Phi) (o : ℕ × ℕ) → slice_get z.blocks b ≡ Some x → In x.phis φ → σ φ.name ≢ φ.name → In φ.operands o → σ o.1 ≡ σ φ.name
      joined b x φ o at i moved m =
          let p = of.join b x φ at i in
          let j = p.1 in
          let k = place_of j.operands o.1 0 (subst (λ l. In l o.1) p.3.operands (in_map operand φ.operands o m)) in
          let n_in = name_in p.0 j p.2 in
          let o_in = operand_in p.0 j k.0 p.2 k.1 in
          ap σ (sym k.2) ∙ σ_in (get_or j.operands k.0 0) o_in ∙ merged.joined p.0 j k.0 p.2 (λ r. moved (ap σ p.3.name ∙ root_σ j.name n_in r ∙ sym p.3.name)) k.1 ∙ sym (σ_in j.name n_in) ∙ ap σ (sym p.3.name)

      pub merges : Merges params z (replacing into)
      merges = record { settled = settled; slot_kept = slot_kept; parameter_kept = parameter_kept; assigned_kept = assigned_kept; joined = joined }

      pub reduced : (b : ℕ) (x : SsaBlock) (φ : Phi) (m : ℕ) → slice_get z.blocks b ≡ Some x → In x.phis φ → σ φ.name ≡ φ.name → JoinsOnly σ φ m → ⊥
      reduced b x φ m at i stays only =
          let p = of.join b x φ at i in
          let j = p.1 in
          let n_in = name_in p.0 j p.2 in
          merged.reduced p.0 j m p.2 (sym (σ_in j.name n_in) ∙ ap σ (sym p.3.name) ∙ stays ∙ p.3.name)
          (λ k lt.
          let o = from_map operand φ.operands (get_or j.operands k 0) (subst (λ l. In l (get_or j.operands k 0)) (sym p.3.operands) (in_get_or j.operands k 0 lt)) in
          let e : get_or into (get_or j.operands k 0) 0 ≡ σ o.0.1 = sym (σ_in (get_or j.operands k 0) (operand_in p.0 j k p.2 lt)) ∙ ap σ (sym o.2) in
          elim (only o.0 o.1) [ inl q ↦ inl (e ∙ q ∙ p.3.name) | inr q ↦ inr (e ∙ q) ])

      pub reduces : (names : List ℕ) (number : ℕ → ℕ) → Renumbers slots params z.names names (replacing into) number → IsNamed slots params entry g (replaced (λ n. number (replacing into n)) (is_end (replacing into)) names z) × HasNoTrivial (replaced (λ n. number (replacing into n)) (is_end (replacing into)) names z)
      reduces names number numbers =
          (keeps slots params entry g z names (λ n. number (replacing into n)) (is_end (replacing into)) named (merged_renames slots params entry g z names (replacing into) number named merges numbers), ends_reduced slots params entry g z names (replacing into) number named merges numbers reduced)
