-- Names replaced and φs dropped leave a named form named.
use Rattle.std.proofs.Common.{◌≡◌, ◌⊎◌, ℕ, ◌<◌, ◌≤◌, Bool, true, false, List, [], ◌∷◌, map, slice_get, Some, refl, sym, ap, ◌∙◌, subst, inl, inr}
use Rattle.std.proofs.lemmas.List.{length-map}
use Rattle.std.specs.List.{filter}
use Rattle.block_forms.specs.Forms.{at_key}
use Rattle.block_forms.specs.Places.{first_of}
use Rattle.ssa_build.specs.Forms.{Block, Phi, Ssa, SsaBlock}
use Rattle.block_forms.specs.Places.{In}
use Rattle.block_graph.proofs.Lists.{compared, from_at_map, from_filter, from_lookup, from_map, some_same}
use Rattle.ssa_build.proofs.Lists.{distinct_filter, same_map}
use Rattle.ssa_build.proofs.Merges.{Renames, SetsStaying, replaced, replaced_block, replaced_in, replaced_phi}
use Rattle.ssa_build.proofs.Naming.{Assigns, Differ, Edge, Flows, IsNamed, IsPhi, SameEnd, SameSet, Sets, exit_name}
use Rattle.ssa_build.proofs.OfSlots.{assigned_slot}
use Rattle.ssa_build.proofs.Replacing.{assigns_back, exits, found, found_back, is_phi_back, keys_kept, phi_back, phi_on, same_end, same_set, sets_back}

-- what holds of each replaced block holds of each block of the replaced form
pub each_block : (into : ℕ → ℕ) (stays : ℕ → Bool) (names : List ℕ) (z : Ssa) (P : ℕ → SsaBlock → Type 0) → ((b : ℕ) (x : SsaBlock) → slice_get z.blocks b ≡ Some x → P b (replaced_block into stays x)) → (b : ℕ) (y : SsaBlock) → slice_get (replaced into stays names z).blocks b ≡ Some y → P b y
each_block into stays names z P h b y at = let r = from_at_map (replaced_block into stays) z.blocks b y at in subst (λ w. P b w) r.2 (h b r.0 r.1)

true_or_false : (c : Bool) → (c ≡ true) ⊎ (c ≡ false)
true_or_false true = inl refl
true_or_false false = inr refl

pub has_phi : (φs : List Phi) (n : ℕ) → ((φ : Phi) × In φs φ × (φ.name ≡ n)) ⊎ ((φ : Phi) → In φs φ → φ.name ≡ n → ⊥)
has_phi [] n = inr (λ φ i e. i)
has_phi (ψ ∷ ψs) n = go (compared ψ.name n) (has_phi ψs n)
  where
    go : (ψ.name ≡ n) ⊎ (ψ.name ≡ n → ⊥) → ((φ : Phi) × In ψs φ × (φ.name ≡ n)) ⊎ ((φ : Phi) → In ψs φ → φ.name ≡ n → ⊥) → ((φ : Phi) × In (ψ ∷ ψs) φ × (φ.name ≡ n)) ⊎ ((φ : Phi) → In (ψ ∷ ψs) φ → φ.name ≡ n → ⊥)
    go (inl e) rest = inl (ψ, inl refl, e)
    go (inr differ) (inl r) = inl (r.0, inr r.1, r.2)
    go (inr differ) (inr without) = inr (λ φ i e. elim i [ inl q ↦ differ (ap (λ (χ : Phi). χ.name) q ∙ e) | inr j ↦ without φ j e ])

module _ (slots params entry : ℕ) (g : List Block) (z : Ssa) (names : List ℕ) (into : ℕ → ℕ) (stays : ℕ → Bool) (named : IsNamed slots params entry g z) (renames : Renames slots params z names into stays) where
  abbrev At : ℕ → SsaBlock → Type 0
  At b x = slice_get z.blocks b ≡ Some x

  abbrev R : SsaBlock → SsaBlock
  R = replaced_block into stays

  abbrev each : (P : ℕ → SsaBlock → Type 0) → ((b : ℕ) (x : SsaBlock) → At b x → P b (R x)) → (b : ℕ) (y : SsaBlock) → slice_get (replaced into stays names z).blocks b ≡ Some y → P b y
  each = each_block into stays names z

  -- an assigned name has a slot
  assigned : (b : ℕ) (x : SsaBlock) → At b x → (n : ℕ) → Assigns x.set n → (t : ℕ) × (slice_get z.names n ≡ Some t) × (slice_get names (into n) ≡ Some t)
  assigned b x at n a = let r = assigned_slot slots params entry g z named b x at n a in (r.0, r.1, renames.slot_kept n r.0 r.1)

  exits_on : (b : ℕ) (x : SsaBlock) → At b x → (s e : ℕ) → exit_name z.names x s ≡ Some e → exit_name names (R x) s ≡ Some (into e)
  exits_on b x at s e h = exits into stays z.names names x.map x.set s e (assigned b x at) h

  -- a φ of the block that has the slot is the map's name of the slot
  phi_of_slot : (b : ℕ) (x : SsaBlock) (φ : Phi) (s n : ℕ) → At b x → In x.phis φ → slice_get z.names φ.name ≡ Some s → at_key x.map s ≡ Some n → φ.name ≡ n
  phi_of_slot b x φ s n at i e h =
      let r = named.phi_map b x φ at i in
      let same : r.0 ≡ s = some_same (sym r.1 ∙ e) in
      some_same (sym r.2 ∙ ap (at_key x.map) same ∙ h)

  map_name : (b : ℕ) (x : SsaBlock) (s n : ℕ) → At b x → at_key x.map s ≡ Some n → slice_get z.names n ≡ Some s
  map_name b x s n at h = named.map_names b x (s, n) at (from_lookup x.map s n h)

  phi_slot : (b : ℕ) (x : SsaBlock) (φ : Phi) → At b x → In x.phis φ → (s : ℕ) × (slice_get z.names φ.name ≡ Some s) × (slice_get names (into φ.name) ≡ Some s)
  phi_slot b x φ at i = let r = named.phi_map b x φ at i in (r.0, r.1, renames.slot_kept φ.name r.0 r.1)

  -- a φ that has the new name of a slot is the slot's φ
  same_phi : (b : ℕ) (x : SsaBlock) (φ : Phi) (s n : ℕ) → At b x → In x.phis φ → at_key x.map s ≡ Some n → into φ.name ≡ into n → φ.name ≡ n
  same_phi b x φ s n at i h e =
      let r = phi_slot b x φ at i in
      let same : r.0 ≡ s = some_same (sym r.2 ∙ ap (slice_get names) e ∙ renames.slot_kept n s (map_name b x s n at h)) in
      phi_of_slot b x φ s n at i (r.1 ∙ ap Some same) h

  flows_on : (b c : ℕ) (x y : SsaBlock) (s n : ℕ) → At b x → At c y → Edge g b c → at_key y.map s ≡ Some n → (e : ℕ) × (exit_name names (R x) s ≡ Some e) × Flows (R y) b (into n) e
  flows_on b c x y s n atb atc edge h = (into flow.0, exits_on b x atb s flow.0 flow.1, record { joined = joined; passed = passed })
    where
      flow : (e : ℕ) × (exit_name z.names x s ≡ Some e) × Flows y b n e
      flow = named.flows b c x y s n atb atc edge h

      joined : (ψ : Phi) → In (R y).phis ψ → ψ.name ≡ into n → at_key ψ.operands b ≡ Some (into flow.0)
      joined ψ i e =
          let r = phi_back into stays y ψ i in
          let is : r.0.name ≡ n = same_phi c y r.0 s n atc r.1 h (ap (λ (φ : Phi). φ.name) r.3 ∙ e) in
          subst (λ (φ : Phi). at_key φ.operands b ≡ Some (into flow.0)) r.3 (found into stays r.0.operands b flow.0 (flow.2.joined r.0 r.1 is))

      passed : ((ψ : Phi) → In (R y).phis ψ → ψ.name ≡ into n → ⊥) → into flow.0 ≡ into n
      passed none = go (has_phi y.phis n)
        where
          go : ((φ : Phi) × In y.phis φ × (φ.name ≡ n)) ⊎ ((φ : Phi) → In y.phis φ → φ.name ≡ n → ⊥) → into flow.0 ≡ into n
          go (inr without) = ap into (flow.2.passed without)
          go (inl r) = elim (true_or_false (stays r.0.name)) [
            | inl e ↦ absurd (none (replaced_phi into stays r.0) (phi_on into stays y r.0 r.1 e) (ap into r.2))
            | inr e ↦ renames.joined c y r.0 (b, flow.0) atc r.1 e (from_lookup r.0.operands b flow.0 (flow.2.joined r.0 r.1 r.2)) ∙ ap into r.2
          ]

  -- ---- the whole

  phi_slots : (b : ℕ) (x : SsaBlock) → At b x → Differ (map (λ φ. slice_get names φ.name) (R x).phis)
  phi_slots b x at = subst (λ l. Differ l) (sym (into_all (filter (λ φ. stays φ.name) x.phis) ∙ same_map (λ (φ : Phi). slice_get names (into φ.name)) (λ φ. slice_get z.names φ.name) (filter (λ φ. stays φ.name) x.phis) (λ φ i. let r = phi_slot b x φ at (from_filter (λ (φ : Phi). stays φ.name) x.phis φ i).0 in r.2 ∙ sym r.1))) (distinct_filter (λ (φ : Phi). stays φ.name) (λ (φ : Phi). slice_get z.names φ.name) x.phis (named.phi_slots b x at))
    where
      into_all : (φs : List Phi) → map (λ φ. slice_get names φ.name) (map (replaced_phi into stays) φs) ≡ map (λ φ. slice_get names (into φ.name)) φs
      into_all [] = refl
      into_all (φ ∷ φs) = ap (λ l. slice_get names (into φ.name) ∷ l) (into_all φs)

  phi_map : (b : ℕ) (x : SsaBlock) (ψ : Phi) → At b x → In (R x).phis ψ → (s : ℕ) × (slice_get names ψ.name ≡ Some s) × (at_key (R x).map s ≡ Some ψ.name)
  phi_map b x ψ at i =
      let r = phi_back into stays x ψ i in
      let q = named.phi_map b x r.0 at r.1 in
      subst (λ (φ : Phi). (s : ℕ) × (slice_get names φ.name ≡ Some s) × (at_key (R x).map s ≡ Some φ.name)) r.3 (q.0, renames.slot_kept r.0.name q.0 q.1, found into stays x.map q.0 r.0.name q.2)

  entry_map : (x : SsaBlock) (p : ℕ × ℕ) → At entry x → In (R x).map p → (p.0 < params) × (p.1 ≡ p.0)
  entry_map x p at i =
      let r = from_map (replaced_in into stays) x.map p i in
      let q = named.entry_map x r.0 at r.1 in
      subst (λ (o : ℕ × ℕ). (o.0 < params) × (o.1 ≡ o.0)) r.2 (q.0, ap into q.1 ∙ (renames.parameter r.0.0 q.0).1)

  map_names : (b : ℕ) (x : SsaBlock) (p : ℕ × ℕ) → At b x → In (R x).map p → slice_get names p.1 ≡ Some p.0
  map_names b x p at i =
      let r = from_map (replaced_in into stays) x.map p i in
      subst (λ (o : ℕ × ℕ). slice_get names o.1 ≡ Some o.0) r.2 (renames.slot_kept r.0.1 r.0.0 (named.map_names b x r.0 at r.1))

  operand_blocks : (b : ℕ) (x : SsaBlock) (ψ : Phi) → At b x → In (R x).phis ψ → Differ (map first_of ψ.operands)
  operand_blocks b x ψ at i =
      let r = phi_back into stays x ψ i in
      subst (λ (φ : Phi). Differ (map first_of φ.operands)) r.3 (subst (λ l. Differ l) (sym (keys_kept into stays r.0.operands)) (named.operand_blocks b x r.0 at r.1))

  operand_edges : (b : ℕ) (x : SsaBlock) (ψ : Phi) (o : ℕ × ℕ) → At b x → In (R x).phis ψ → In ψ.operands o → Edge g o.0 b
  operand_edges b x ψ o at i j =
      let r = phi_back into stays x ψ i in
      let q = from_map (replaced_in into stays) r.0.operands o (subst (λ (φ : Phi). In φ.operands o) (sym r.3) j) in
      subst (λ (o : ℕ × ℕ). Edge g o.0 b) q.2 (named.operand_edges b x r.0 q.0 at r.1 q.1)

  entry_phis : (x : SsaBlock) → At entry x → (R x).phis ≡ []
  entry_phis x at = ap (λ φs. map (replaced_phi into stays) (filter (λ φ. stays φ.name) φs)) (named.entry_phis x at)

  set_before : (x : SsaBlock) (n : ℕ) → SetsStaying stays x n → Sets x n
  set_before x n (inl p) = inl p.0
  set_before x n (inr a) = inr a

  once_on : (b c : ℕ) (x y : SsaBlock) (k : ℕ) → At b x → At c y → Sets (R x) k → Sets (R y) k → b ≡ c
  once_on b c x y k atb atc p q =
      let r = sets_back into stays x k p in
      let t = sets_back into stays y k q in
      let e : r.0 ≡ t.0 = renames.apart b c x y r.0 t.0 atb atc r.1 t.1 (r.2 ∙ sym t.2) in
      named.once b c x y r.0 atb atc (set_before x r.0 r.1) (subst (λ v. Sets y v) (sym e) (set_before y t.0 t.1))

  once : (b c : ℕ) (x y : SsaBlock) (k : ℕ) → slice_get (replaced into stays names z).blocks b ≡ Some x → slice_get (replaced into stays names z).blocks c ≡ Some y → Sets x k → Sets y k → b ≡ c
  once b c x y k atb atc =
      each (λ b x. Sets x k → Sets y k → b ≡ c) (λ b x atb. each (λ c y. Sets (R x) k → Sets y k → b ≡ c) (λ c y atc. once_on b c x y k atb atc) c y atc) b x atb

  unset : (b : ℕ) (x : SsaBlock) (k : ℕ) → At b x → Sets (R x) k → params ≤ k
  unset b x k at p = let r = sets_back into stays x k p in subst (λ v. params ≤ v) r.2 (renames.above b x r.0 at r.1)

  apart : (b : ℕ) (x : SsaBlock) (k : ℕ) → At b x → IsPhi (R x) k → Assigns (R x).set k → ⊥
  apart b x k at p a =
      let r = is_phi_back into stays x k p in
      let t = assigns_back into stays x.set k a in
      let e : r.0 ≡ t.0 = renames.apart b b x x r.0 t.0 at at (inl (r.1, r.2)) (inr t.1) (r.3 ∙ sym t.2) in
      named.apart b x r.0 at r.1 (subst (λ v. Assigns x.set v) (sym e) t.1)

  flows : (b c : ℕ) (x y : SsaBlock) (s k : ℕ) → slice_get (replaced into stays names z).blocks b ≡ Some x → slice_get (replaced into stays names z).blocks c ≡ Some y → Edge g b c → at_key y.map s ≡ Some k → (e : ℕ) × (exit_name names x s ≡ Some e) × Flows y b k e
  flows b c x y s k atb atc edge =
      each (λ c y. Edge g b c → at_key y.map s ≡ Some k → (e : ℕ) × (exit_name names x s ≡ Some e) × Flows y b k e) (λ c y atc edge h.
      let r = found_back into stays y.map s k h in
      subst (λ k. (e : ℕ) × (exit_name names x s ≡ Some e) × Flows (R y) b k e) r.2
      (each (λ b x. Edge g b c → (e : ℕ) × (exit_name names x s ≡ Some e) × Flows (R y) b (into r.0) e) (λ b x atb edge. flows_on b c x y s r.0 atb atc edge r.1) b x atb edge)) c y atc edge

  pub keeps : IsNamed slots params entry g (replaced into stays names z)
  keeps = record {
    as_many = length-map z.blocks (replaced_block into stays) ∙ named.as_many;
    of_slots = renames.of_slots;
    parameters = λ i h. (renames.parameter i h).0;
    unset = λ b y n at. each (λ b y. Sets y n → params ≤ n) (λ b x at. unset b x n at) b y at;
    once = once;
    apart = λ b y n at. each (λ b y. IsPhi y n → Assigns y.set n → ⊥) (λ b x at. apart b x n at) b y at;
    map_slots = each (λ b y. Differ (map first_of y.map)) (λ b x at. subst (λ l. Differ l) (sym (keys_kept into stays x.map)) (named.map_slots b x at));
    map_names = λ b y p at. each (λ b y. In y.map p → slice_get names p.1 ≡ Some p.0) (λ b x at i. map_names b x p at i) b y at;
    phi_slots = each (λ b y. Differ (map (λ φ. slice_get names φ.name) y.phis)) phi_slots;
    phi_map = λ b y ψ at. each (λ b y. In y.phis ψ → (s : ℕ) × (slice_get names ψ.name ≡ Some s) × (at_key y.map s ≡ Some ψ.name)) (λ b x at i. phi_map b x ψ at i) b y at;
    entry_phis = λ y at. each (λ b y. b ≡ entry → y.phis ≡ []) (λ b x at e. entry_phis x (subst (λ v. At v x) e at)) entry y at refl;
    entry_map = λ y p at. each (λ b y. b ≡ entry → In y.map p → (p.0 < params) × (p.1 ≡ p.0)) (λ b x at e. entry_map x p (subst (λ v. At v x) e at)) entry y at refl;
    same_set = λ b y x atg at. each (λ b x. (y : Block) → slice_get g b ≡ Some y → SameSet names (at_key x.map) y.set x.set) (λ b x at y atg. same_set into stays (at_key x.map) (at_key (R x).map) (found into stays x.map) z.names names y.set x.set renames.slot_kept (named.same_set b y x atg at)) b x at y atg;
    same_end = λ b y x atg at. each (λ b x. (y : Block) → slice_get g b ≡ Some y → SameEnd (exit_name names x) y.end x.end) (λ b x at y atg. same_end into stays (exit_name z.names x) (exit_name names (R x)) (exits_on b x at) y.end x.end (named.same_end b y x atg at)) b x at y atg;
    operand_blocks = λ b y ψ at. each (λ b y. In y.phis ψ → Differ (map first_of ψ.operands)) (λ b x at i. operand_blocks b x ψ at i) b y at;
    operand_edges = λ b y ψ o at. each (λ b y. In y.phis ψ → In ψ.operands o → Edge g o.0 b) (λ b x at i j. operand_edges b x ψ o at i j) b y at;
    flows = flows;
  }
