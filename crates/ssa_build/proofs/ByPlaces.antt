-- A form that is named by membership and by edges is named by places.
use Rattle.std.proofs.Common.{◌≡◌, ◌⊎◌, ℕ, zero, suc, ◌<◌, Bool, true, false, if◌then◌else◌, List, [], ◌∷◌, map, length, slice_get, Option, Some, None, nat_eq, refl, sym, ap, ◌∙◌, subst, inl, inr, arith}
use Rattle.std.proofs.lemmas.Option.{slice_get_within}
use Rattle.block_forms.specs.Forms.{AtTargets, Pairs, at_key, phi_named, source, taken_from}
use Rattle.block_forms.specs.Lowered.{end_leads}
use Rattle.block_forms.specs.Named.{AssignmentRenamed, BlockRenamed, EdgesFed, EndRenamed, EntryHas, Feeds, MapOfParameters, MapOfSlots, Maps, Named, NamesOfSlots, PhisOfPredecessors, TermRenamed, exit_map, leads}
use Rattle.block_forms.specs.Places.{Distinct, Each, IsThere, first_of}
use Rattle.block_forms.specs.Leading.{LeadsWithin}
use Rattle.ssa_build.specs.Forms.{Block, Branch, End, Fail, Goto, Jump, Phi, Return, Ssa, SsaBlock, Term}
use Rattle.block_forms.specs.Places.{In}
use Rattle.ssa_build.proofs.Edges.{edge_from_leads, leads_from_edge}
use Rattle.block_graph.proofs.Lists.{in_place, none_some, other_number, same_number, some_at, some_same}
use Rattle.ssa_build.proofs.Lists.{in_lookup, same_place}
use Rattle.ssa_build.proofs.Naming.{Differ, Edge, IsNamed, Leads, SameEnd, SameSet, SameTerm, Spelled, exit_name, is_slot}
use Rattle.ssa_build.proofs.SetOnce.{once_here, set_once, unset}

-- ---- lists

pub differ_distinct : {X Y : Type 0} (f : X → Y) (xs : List X) → Differ (map f xs) → Distinct f xs
differ_distinct f xs d i x at = record { others = λ j y h lt e. let q : j ≡ i = same_place f xs j i y x d h at e in omega (arith, q, lt) }

spelled_long : (name : ℕ → Option ℕ) (ss ns : List ℕ) → Spelled name ss ns → length ss ≡ length ns
spelled_long name [] [] h = refl
spelled_long name [] (n ∷ ns) h = absurd h
spelled_long name (s ∷ ss) [] h = absurd h
spelled_long name (s ∷ ss) (n ∷ ns) h = ap suc (spelled_long name ss ns h.1)

spelled_each : (name : ℕ → Option ℕ) (ss ns : List ℕ) → Spelled name ss ns → (i s n : ℕ) → slice_get ss i ≡ Some s → slice_get ns i ≡ Some n → name s ≡ Some n
spelled_each name [] ns h i s n p q = absurd (none_some p)
spelled_each name (t ∷ ss) [] h i s n p q = absurd h
spelled_each name (t ∷ ss) (m ∷ ns) h zero s n p q = ap name (sym (some_same p)) ∙ h.0 ∙ q
spelled_each name (t ∷ ss) (m ∷ ns) h (suc i) s n p q = spelled_each name ss ns h.1 i s n p q

-- ---- what is read

term_renamed : (name : ℕ → Option ℕ) (m : Pairs) → ((s : ℕ) → name s ≡ at_key m s) → (t u : Term) → SameTerm name t u → TermRenamed m t u
term_renamed name m same t u h = record {
  expr = sym h.0;
  names = record { as_many = spelled_long name t.names u.names h.1; each = λ i s n p q. sym (same s) ∙ spelled_each name t.names u.names h.1 i s n p q };
}

end_renamed : (name : ℕ → Option ℕ) (m : Pairs) → ((s : ℕ) → name s ≡ at_key m s) → (e f : End) → SameEnd name e f → EndRenamed m e f
end_renamed name m same (Jump b) (Jump c) h = sym h
end_renamed name m same (Jump b) (Branch u v w) h = absurd h
end_renamed name m same (Jump b) (Return u) h = absurd h
end_renamed name m same (Jump b) (Fail k) h = absurd h
end_renamed name m same (Branch t y n) (Jump c) h = absurd h
end_renamed name m same (Branch t y n) (Branch u v w) h = (term_renamed name m same t u h.0, sym h.1, sym h.2)
end_renamed name m same (Branch t y n) (Return u) h = absurd h
end_renamed name m same (Branch t y n) (Fail k) h = absurd h
end_renamed name m same (Return t) (Jump c) h = absurd h
end_renamed name m same (Return t) (Branch u v w) h = absurd h
end_renamed name m same (Return t) (Return u) h = term_renamed name m same t u h
end_renamed name m same (Return t) (Fail k) h = absurd h
end_renamed name m same (Fail k) (Jump c) h = absurd h
end_renamed name m same (Fail k) (Branch u v w) h = absurd h
end_renamed name m same (Fail k) (Return u) h = absurd h
end_renamed name m same (Fail k) (Fail l) h = sym h

set_renamed : (names : List ℕ) (m : Pairs) (a b : Option (ℕ × Term)) → SameSet names (at_key m) a b → AssignmentRenamed names m a b
set_renamed names m None None h = tt
set_renamed names m None (Some b) h = absurd h
set_renamed names m (Some a) None h = absurd h
set_renamed names m (Some a) (Some b) h = (h.0, term_renamed (at_key m) m (λ s. refl) a.1 b.1 h.1)

-- the name of a slot where a block ends, by the exit map
exit_at : (names : List ℕ) (x : Block) (y : SsaBlock) → SameSet names (at_key y.map) x.set y.set → (s : ℕ) → exit_name names y s ≡ at_key (exit_map x y) s
exit_at names x y h s = go x.set y.set h
  where
    go : (a b : Option (ℕ × Term)) → SameSet names (at_key y.map) a b → Rattle.ssa_build.proofs.Naming.renewed names b (at_key y.map) s ≡ at_key (Rattle.block_forms.specs.Named.with_pair (Rattle.block_forms.specs.Named.renewal a b) y.map) s
    go None None h = refl
    go None (Some b) h = absurd h
    go (Some a) None h = absurd h
    go (Some a) (Some b) h = ap (λ o. if is_slot o s then Some b.0 else at_key y.map s) h.0

-- the φ with a name, or none
named_phi : (φs : List Phi) (n : ℕ) → ((φ : Phi) × (phi_named φs n ≡ Some φ) × In φs φ × (φ.name ≡ n)) ⊎ ((phi_named φs n ≡ None) × ((φ : Phi) → In φs φ → φ.name ≡ n → ⊥))
named_phi [] n = inr (refl, λ φ i e. i)
named_phi (ψ ∷ ψs) n = go (nat_eq ψ.name n) refl (named_phi ψs n)
  where
    go : (c : Bool) → nat_eq ψ.name n ≡ c → ((φ : Phi) × (phi_named ψs n ≡ Some φ) × In ψs φ × (φ.name ≡ n)) ⊎ ((phi_named ψs n ≡ None) × ((φ : Phi) → In ψs φ → φ.name ≡ n → ⊥)) → ((φ : Phi) × ((if c then Some ψ else phi_named ψs n) ≡ Some φ) × In (ψ ∷ ψs) φ × (φ.name ≡ n)) ⊎ (((if c then Some ψ else phi_named ψs n) ≡ None) × ((φ : Phi) → In (ψ ∷ ψs) φ → φ.name ≡ n → ⊥))
    go true e rest = inl (ψ, refl, inl refl, same_number ψ.name n e)
    go false e (inl r) = inl (r.0, r.1, inr r.2, r.3)
    go false e (inr r) = inr (r.0, λ φ i q. elim i [ inl p ↦ other_number ψ.name n e (ap (λ (χ : Phi). χ.name) p ∙ q) | inr j ↦ r.1 φ j q ])

at_targets : (P : ℕ → Type 0) (Q : ℕ → Type 0) (e : End) → AtTargets Q e → ((c : ℕ) → Leads e c → Q c → P c) → AtTargets P e
at_targets P Q (Jump c) q h = h c refl q
at_targets P Q (Branch t c d) q h = (h c (inl refl) q.0, h d (inr refl) q.1)
at_targets P Q (Return t) q h = tt
at_targets P Q (Fail k) q h = tt

module _ (slots params : ℕ) (g : Goto) (z : Ssa) (named : IsNamed slots params g.entry g.blocks z) (entry_in : g.entry < length g.blocks) (targets : Each (LeadsWithin (length g.blocks)) g.blocks) where
  block_of : (b : ℕ) → b < length g.blocks → (y : SsaBlock) × (slice_get z.blocks b ≡ Some y)
  block_of b lt = some_at z.blocks b (subst (λ v. b < v) (sym named.as_many) lt)

  names_of_slots : NamesOfSlots slots params z
  names_of_slots = record {
    of_slots = λ n s at. named.of_slots n s at;
    parameters = named.parameters;
    parameters_unset = λ k lt. unset z.blocks k (λ b y at h. let le = named.unset b y k at h in omega (arith, lt, le));
    set_once = λ n lt. set_once z.blocks n (λ b y at. once_here z.names y n (named.phi_slots b y at) (named.apart b y n at)) (λ b c x y p q. named.once b c x y n p q);
  }

  maps : Each (MapOfSlots z.names) z.blocks
  maps b y at = record {
    slots_differ = differ_distinct first_of y.map (named.map_slots b y at);
    own_slots = λ i p h. named.map_names b y p at (in_place y.map i p h);
    phi_slots_differ = differ_distinct (λ (φ : Phi). slice_get z.names φ.name) y.phis (named.phi_slots b y at);
    phis_mapped = λ i φ h. let r = named.phi_map b y φ at (in_place y.phis i φ h) in subst (λ o. Maps y.map o φ.name) (sym r.1) r.2;
  }

  entry : EntryHas (MapOfParameters params) (slice_get z.blocks g.entry)
  entry =
      let y = block_of g.entry entry_in in
      subst (λ o. EntryHas (MapOfParameters params) o) (sym y.1) (record {
        no_phi = named.entry_phis y.0 y.1;
        parameters = λ i p h. let r = named.entry_map y.0 p y.1 (in_place y.0.map i p h) in (sym r.1, subst (λ v. v < params) (sym r.1) r.0);
      })

  blocks : (b : ℕ) (x : Block) (y : SsaBlock) → slice_get g.blocks b ≡ Some x → slice_get z.blocks b ≡ Some y → BlockRenamed z.names x y
  blocks b x y p q =
      let same = named.same_set b x y p q in
      record { set = set_renamed z.names y.map x.set y.set same; end = end_renamed (exit_name z.names y) (exit_map x y) (exit_at z.names x y same) x.end y.end (named.same_end b x y p q) }

  -- a φ has an operand for each block that leads to its own
  operand_there : (c : ℕ) (y : SsaBlock) (φ : Phi) → slice_get z.blocks c ≡ Some y → In y.phis φ → (b : ℕ) (x : Block) → slice_get g.blocks b ≡ Some x → end_leads x.end c ≡ true → IsThere (at_key φ.operands b)
  operand_there c y φ at i b x h e =
      let w = block_of b (slice_get_within g.blocks b x h) in
      let m = named.phi_map c y φ at i in
      let edge : Edge g.blocks b c = edge_from_leads g.blocks b c (ap (λ o. leads o c) h ∙ e) in
      let f = named.flows b c w.0 y m.0 φ.name w.1 at edge m.2 in
      subst (λ o. IsThere o) (sym (f.2.joined φ i refl)) tt

  operands : (c : ℕ) (y : SsaBlock) → slice_get z.blocks c ≡ Some y → PhisOfPredecessors g.blocks c y
  operands c y at = record {
    each = λ k φ h. let i = in_place y.phis k φ h in record {
      blocks_differ = differ_distinct first_of φ.operands (named.operand_blocks c y φ at i);
      of_predecessors = λ j o q. leads_from_edge g.blocks o.0 c (named.operand_edges c y φ o at i (in_place φ.operands j o q));
      of_each = λ b x q e. operand_there c y φ at i b x q e;
    };
  }

  fed : (b c : ℕ) (x : Block) (w y : SsaBlock) → slice_get g.blocks b ≡ Some x → slice_get z.blocks b ≡ Some w → slice_get z.blocks c ≡ Some y → Edge g.blocks b c → Feeds b (exit_map x w) (Some y)
  fed b c x w y atx atw aty edge j p h =
      let mapped : at_key y.map p.0 ≡ Some p.1 = in_lookup y.map p (named.map_slots c y aty) (in_place y.map j p h) in
      let f = named.flows b c w y p.0 p.1 atw aty edge mapped in
      let out : at_key (exit_map x w) p.0 ≡ Some f.0 = sym (exit_at z.names x w (named.same_set b x w atx atw) p.0) ∙ f.1 in
      let into : source y.phis b p.1 ≡ Some f.0 = elim (named_phi y.phis p.1) [
        | inl r ↦ ap (λ o. taken_from o b p.1) r.1 ∙ f.2.joined r.0 r.2 r.3
        | inr r ↦ ap (λ o. taken_from o b p.1) r.0 ∙ ap Some (sym (f.2.passed r.1))
      ] in
      subst (λ o. Rattle.block_forms.specs.Named.Gives o (source y.phis b p.1)) (sym out) into

  edges : (b : ℕ) (x : Block) (w : SsaBlock) → slice_get g.blocks b ≡ Some x → slice_get z.blocks b ≡ Some w → EdgesFed z.blocks b x w
  edges b x w atx atw = record {
    each = at_targets (λ c. Feeds b (exit_map x w) (slice_get z.blocks c)) (λ c. c < length g.blocks) x.end (targets b x atx).targets (λ c l lt.
        let y = block_of c lt in
        subst (λ o. Feeds b (exit_map x w) o) (sym y.1) (fed b c x w y.0 atx atw y.1 (x, atx, l)));
  }

  pub named_by_places : Named slots params g z
  named_by_places = record { as_many_blocks = named.as_many; names = names_of_slots; maps = maps; entry = entry; blocks = blocks; operands = operands; edges = edges }
