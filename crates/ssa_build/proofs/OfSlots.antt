-- Names that belong to slots: those of exits, of assignments and of operands.
use Rattle.std.proofs.Common.{◌≡◌, ℕ, ◌<◌, Bool, true, false, if◌then◌else◌, List, length, slice_get, Option, Some, None, refl, sym, ap, ◌∙◌, subst}
use Rattle.std.proofs.lemmas.Option.{slice_get_within}
use Rattle.block_forms.specs.Forms.{at_key}
use Rattle.ssa_build.specs.Forms.{Block, Phi, Ssa, SsaBlock, Term}
use Rattle.block_forms.specs.Places.{In}
use Rattle.block_graph.proofs.Lists.{from_lookup, same_number, some_at, some_same}
use Rattle.ssa_build.proofs.Lists.{in_lookup}
use Rattle.ssa_build.proofs.Naming.{Assigns, IsNamed, SameSet, exit_name, is_slot, renewed}

module _ (slots params entry : ℕ) (g : List Block) (z : Ssa) (named : IsNamed slots params entry g z) where
  pub exit_slot : (b : ℕ) (x : SsaBlock) (s e : ℕ) → slice_get z.blocks b ≡ Some x → exit_name z.names x s ≡ Some e → slice_get z.names e ≡ Some s
  exit_slot b x s e at h = go x.set h
    where
      mapped : at_key x.map s ≡ Some e → slice_get z.names e ≡ Some s
      mapped h = named.map_names b x (s, e) at (from_lookup x.map s e h)

      slot_is : (o : Option ℕ) → is_slot o s ≡ true → o ≡ Some s
      slot_is None h = absurd (let no : ⊥ = cc in no)
      slot_is (Some t) h = ap Some (same_number t s h)

      go : (a : Option (ℕ × Term)) → renewed z.names a (at_key x.map) s ≡ Some e → slice_get z.names e ≡ Some s
      go None h = mapped h
      go (Some a) h = pick (is_slot (slice_get z.names a.0) s) refl h
        where
          pick : (c : Bool) → is_slot (slice_get z.names a.0) s ≡ c → (if c then Some a.0 else at_key x.map s) ≡ Some e → slice_get z.names e ≡ Some s
          pick true q h = ap (slice_get z.names) (sym (some_same h)) ∙ slot_is (slice_get z.names a.0) q
          pick false q h = mapped h

  -- an operand belongs to its φ's slot
  pub operand_slot : (c : ℕ) (y : SsaBlock) (φ : Phi) (o : ℕ × ℕ) → slice_get z.blocks c ≡ Some y → In y.phis φ → In φ.operands o → (s : ℕ) × (slice_get z.names o.1 ≡ Some s) × (slice_get z.names φ.name ≡ Some s)
  operand_slot c y φ o at i j =
      let edge = named.operand_edges c y φ o at i j in
      let lt : o.0 < length z.blocks = subst (λ v. o.0 < v) (sym named.as_many) (slice_get_within g o.0 edge.0 edge.1) in
      let x = some_at z.blocks o.0 lt in
      let m = named.phi_map c y φ at i in
      let f = named.flows o.0 c x.0 y m.0 φ.name x.1 at edge m.2 in
      let e : o.1 ≡ f.0 = some_same (sym (in_lookup φ.operands o (named.operand_blocks c y φ at i) j) ∙ f.2.joined φ i refl) in
      (m.0, ap (slice_get z.names) e ∙ exit_slot o.0 x.0 m.0 f.0 x.1 f.1, m.1)

  -- an assigned name
  pub assigned_slot : (b : ℕ) (x : SsaBlock) → slice_get z.blocks b ≡ Some x → (n : ℕ) → Assigns x.set n → (t : ℕ) × (slice_get z.names n ≡ Some t)
  assigned_slot b x at n a =
      let y = some_at g b (subst (λ v. b < v) named.as_many (slice_get_within z.blocks b x at)) in
      go y.0.set x.set (named.same_set b y.0 x y.1 at) a
    where
      go : (p q : Option (ℕ × Term)) → SameSet z.names (at_key x.map) p q → Assigns q n → (t : ℕ) × (slice_get z.names n ≡ Some t)
      go None None h a = absurd a
      go None (Some q) h a = absurd h
      go (Some p) None h a = absurd h
      go (Some p) (Some q) h a = (p.0, ap (slice_get z.names) (sym a) ∙ h.0)
