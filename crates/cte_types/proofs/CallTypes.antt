-- Each call passes names of its parameters' types.
use Rattle.std.proofs.Common.{◌≡◌, refl, ap, sym, ◌∙◌, subst, ℕ, suc, ◌<◌, Bool, true, false, cond, nat_eq, List, [], ◌∷◌, slice_get, Option, Some, None}
use Rattle.std.proofs.lemmas.Bool.{eqb-true}
use Rattle.std.proofs.lemmas.Option.{same_Some}
use Rattle.away_values.specs.declared.types.Ty.{Ty}
use Rattle.away_types.specs.declared.slots.Slot.{Slot}
use Rattle.block_forms.specs.declared.forms.End.{End}
use Rattle.block_forms.specs.declared.forms.End.TheVariants as jump
use Rattle.block_forms.specs.declared.forms.Goto.{Goto}
use Rattle.block_forms.specs.declared.forms.Phi.{Phi}
use Rattle.block_forms.specs.declared.forms.Ssa.{Ssa}
use Rattle.block_forms.specs.declared.forms.SsaBlock.{SsaBlock}
use Rattle.block_forms.specs.Forms.{Pairs, AtTargets, at_key, phi_named, taken_from, source}
use Rattle.block_forms.specs.Named.{Named, EndRenamed, Feeds, Gives, MapOfSlots, Maps, exit_map}
use Rattle.block_forms.specs.Places.{Each}
use Rattle.block_forms.proofs.Keys.{at_key_stands, each_at_key}
use Rattle.call_forms.specs.declared.forms.Anf.{Anf}
use Rattle.call_forms.specs.declared.forms.AnfBlock.{AnfBlock}
use Rattle.call_forms.specs.declared.forms.Call.{Call}
use Rattle.call_forms.specs.declared.forms.CallEnd.{CallEnd}
use Rattle.call_forms.specs.declared.forms.CallEnd.TheVariants.{Go, Pick, Return, Fail}
use Rattle.call_forms.specs.Called.{Called, CallOf, EndCalled, Passes}
use Rattle.call_forms.specs.Columned.{type_at}
use Rattle.call_forms.specs.Forms.{params_of}
use Rattle.call_forms.specs.Templated.{types_of, type_or_bigint}
use Rattle.cte_types.specs.Typed.{CallKeepsTypes, EndKeepsTypes, BlockKeepsTypes}
use Rattle.cte_types.proofs.ExitMaps.{Owned, exit_owned, inside, element_there}

-- ---- the φ of a name

record PhiThere (fs : List Phi) (n : ℕ) (f : Phi) : Type 0 where
  place : ℕ
  there : slice_get fs place ≡ Some f
  name : f.name ≡ n

phi_there : (fs : List Phi) (n : ℕ) (f : Phi) → phi_named fs n ≡ Some f → PhiThere fs n f
phi_there [] n f e = absurd (cc)
phi_there (x ∷ xs) n f e = by (nat_eq x.name n) refl e (phi_there xs n f)
  where
    by : (t : Bool) → nat_eq x.name n ≡ t → cond t (Some x) (phi_named xs n) ≡ Some f → (phi_named xs n ≡ Some f → PhiThere xs n f) → PhiThere (x ∷ xs) n f
    by true h e further = record { place = 0; there = e; name = subst (λ (f : Phi). f.name ≡ n) (same_Some x f e) (eqb-true x.name n h) }
    by false h e further = let r = further e in record { place = suc r.place; there = r.there; name = r.name }

-- ---- the name that is passed belongs to the slot of the parameter

module _ (names : List ℕ) where
  -- from a block with this exit map a φ's operand belongs to the φ's slot
  from_phi : (b : ℕ) (exits : Pairs) (y : SsaBlock) (f : Phi) (p n : ℕ) → Owned names exits → Feeds b exits (Some y) → (o : Option ℕ)
      → slice_get names p ≡ o → Maps y.map o p
      → source y.phis b p ≡ Some n → slice_get names n ≡ slice_get names p
  from_phi b exits y f p n own feeds None at maps e = absurd maps
  from_phi b exits y f p n own feeds (Some x) at maps e =
      let stands = at_key_stands y.map x p maps in
      let gives = subst (λ k. Gives (at_key exits k) (source y.phis b p)) stands.key
      (subst (λ m. Gives (at_key exits stands.pair.0) (source y.phis b m)) stands.value (feeds stands.place stands.pair stands.there)) in
      by (at_key exits x) refl gives ∙ sym at
    where
      by : (o : Option ℕ) → at_key exits x ≡ o → Gives o (source y.phis b p) → slice_get names n ≡ Some x
      by None h gives = absurd gives
      by (Some m) h gives = each_at_key (λ x n. slice_get names n ≡ Some x) exits x n own (h ∙ (sym gives ∙ e))

  same_slot : (b : ℕ) (exits : Pairs) (y : SsaBlock) (p n : ℕ) → Owned names exits → MapOfSlots names y → Feeds b exits (Some y) → (o : Option Phi)
      → phi_named y.phis p ≡ o
      → source y.phis b p ≡ Some n → slice_get names n ≡ slice_get names p
  same_slot b exits y p n own maps feeds None h e = ap (slice_get names) (sym (same_Some p n (ap (λ o. taken_from o b p) (sym h) ∙ e)))
  same_slot b exits y p n own maps feeds (Some f) h e =
      let there = phi_there y.phis p f h in
      from_phi b exits y f p n own feeds (slice_get names p) refl
      (subst (λ p. Maps y.map (slice_get names p) p) there.name (maps.phis_mapped there.place f there.there)) e

-- ---- all calls

module _ (slots : List Slot) (g : Goto) (z : Ssa) (a : Anf) (count params : ℕ) (named : Named count params g z) (called : Called g z a) where
  abbrev types : ℕ → Ty
  types = types_of slots z

  call_keeps : (b c : ℕ) (exits : Pairs) (call : Call) → Owned z.names exits → Feeds b exits (slice_get z.blocks c) → CallOf z a b c call
      → CallKeepsTypes types a call
  call_keeps b c exits call own feeds h i p n at_p at_n =
      by (slice_get z.blocks c) refl (slice_get a.blocks c) refl feeds h.passes
    where
      by : (y : Option SsaBlock) → slice_get z.blocks c ≡ y → (x : Option AnfBlock) → slice_get a.blocks c ≡ x → Feeds b exits y → Passes b y x call.args
          → types n ≡ types p
      by None at_y x at_x feeds passes = absurd passes
      by (Some y) at_y None at_x feeds passes = absurd passes
      by (Some y) at_y (Some x) at_x feeds passes =
          let there : slice_get (params_of (Some x)) i ≡ Some p = subst (λ o. slice_get (params_of o) i ≡ Some p) at_x
          (subst (λ t. slice_get (params_of (slice_get a.blocks t)) i ≡ Some p) h.target at_p) in
          ap (λ o. type_or_bigint (type_at slots o))
          (same_slot z.names b exits y p n own (named.maps c y at_y) feeds (phi_named y.phis p) refl (passes.each i p n there at_n))

  -- the calls of an end, where each way of the goto form's end is fed
  end_keeps : (b : ℕ) (exits m : Pairs) (x y : End) (e : CallEnd) → Owned z.names exits → AtTargets (λ c. Feeds b exits (slice_get z.blocks c)) x
      → EndRenamed m x y → EndCalled z a b y e
      → EndKeepsTypes types a e
  end_keeps b exits m (jump.Jump c) (jump.Jump d) (Go call) own feeds h called =
      call_keeps b d exits call own (subst (λ c. Feeds b exits (slice_get z.blocks c)) h feeds) called
  end_keeps b exits m (jump.Branch t c c') (jump.Branch u d d') (Pick v x y) own feeds h called = (
    call_keeps b d exits x own (subst (λ c. Feeds b exits (slice_get z.blocks c)) h.1 feeds.0) called.1,
    call_keeps b d' exits y own (subst (λ c. Feeds b exits (slice_get z.blocks c)) h.2 feeds.1) called.2,
  )
  end_keeps b exits m x y (Return t) own feeds h called = tt
  end_keeps b exits m x y (Fail c) own feeds h called = tt
  end_keeps b exits m (jump.Branch t c c') (jump.Jump d) (Go call) own feeds h called = absurd h
  end_keeps b exits m (jump.Return t) (jump.Jump d) (Go call) own feeds h called = absurd h
  end_keeps b exits m (jump.Fail c) (jump.Jump d) (Go call) own feeds h called = absurd h
  end_keeps b exits m x (jump.Branch u d d') (Go call) own feeds h called = absurd called
  end_keeps b exits m x (jump.Return u) (Go call) own feeds h called = absurd called
  end_keeps b exits m x (jump.Fail u) (Go call) own feeds h called = absurd called
  end_keeps b exits m (jump.Jump c) (jump.Branch u d d') (Pick v x y) own feeds h called = absurd h
  end_keeps b exits m (jump.Return t) (jump.Branch u d d') (Pick v x y) own feeds h called = absurd h
  end_keeps b exits m (jump.Fail c) (jump.Branch u d d') (Pick v x y) own feeds h called = absurd h
  end_keeps b exits m w (jump.Jump d) (Pick v x y) own feeds h called = absurd called
  end_keeps b exits m w (jump.Return u) (Pick v x y) own feeds h called = absurd called
  end_keeps b exits m w (jump.Fail u) (Pick v x y) own feeds h called = absurd called

  pub calls_keep : Each (BlockKeepsTypes types a) a.blocks
  calls_keep i x at =
      let of_z = element_there z.blocks i (subst (λ n. i < n) called.as_many_blocks (inside a.blocks i x at)) in
      let of_g = element_there g.blocks i (subst (λ n. i < n) named.as_many_blocks (inside z.blocks i of_z.0 of_z.1)) in
      let renames = named.blocks i of_g.0 of_z.0 of_g.1 of_z.1 in
      let exits = exit_map of_g.0 of_z.0 in
      let own = exit_owned z.names of_z.0.map of_z.0.map of_g.0.set of_z.0.set renames.set (named.maps i of_z.0 of_z.1).own_slots in
      record {
        end = end_keeps i exits exits of_g.0.end of_z.0.end x.end own (named.edges i of_g.0 of_z.0 of_g.1 of_z.1).each renames.end
            (called.blocks i of_z.0 x of_z.1 at).end;
      }
