-- Parameters of the normal form are useful: they are names of live slots.
use Rattle.std.proofs.Common.{◌≡◌, ◌⊎◌, ℕ, zero, suc, ◌<◌, length, slice_get, Some, sym, ap, ◌∙◌, subst, inl, inr}
use Rattle.block_forms.specs.declared.forms.Block.{Block}
use Rattle.block_forms.specs.declared.forms.End.{End}
use Rattle.block_forms.specs.declared.forms.End.TheVariants.{Jump, Branch, Return, Fail}
use Rattle.block_forms.specs.declared.forms.Goto.{Goto}
use Rattle.block_forms.specs.declared.forms.Ssa.{Ssa}
use Rattle.block_forms.specs.declared.forms.SsaBlock.{SsaBlock}
use Rattle.block_forms.specs.declared.forms.Term.{Term}
use Rattle.block_forms.specs.Forms.{Assignment, AtTargets, at_key}
use Rattle.block_forms.specs.Live.{Live, LiveEnd, LiveIn}
use Rattle.block_forms.specs.Named.{EndRenamed, Feeds, Named, TermRenamed, exit_map}
use Rattle.block_forms.specs.Places.{In}
use Rattle.call_forms.specs.Called.{Among}
use Rattle.call_forms.specs.declared.forms.Anf.{Anf}
use Rattle.call_forms.specs.declared.forms.AnfBlock.{AnfBlock}
use Rattle.call_forms.specs.declared.forms.CallEnd.{CallEnd}
use Rattle.call_forms.specs.Forms.{params_of}
use Rattle.call_forms.specs.Useful.{EndPasses, PassesOn, ReadByEnd, ReadBySet, SetsAnother, UsedHere, UsefulParameters, UsefulWithin}
use Rattle.anf_build.specs.NormalForm.{IsNormalForm}
use Rattle.anf_build.specs.Passing.{IsBlockOf, arguments_of, call_of, end_of, live_pairs, named_or, parameters}
use Rattle.block_graph.proofs.Lists.{at_map, from_at_map, from_lookup, some_same}
use Rattle.anf_build.proofs.Lists.{in_lookup}
use Rattle.anf_build.proofs.Names.{exit_other, fed_block, live_cases, name_of_read, set_reads, sets_another}
use Rattle.anf_build.proofs.Slots.{has_name, live_of_way, slot_within, way_of}
use Rattle.anf_build.proofs.Blocks.{Standing, made_of, map_differs, named_is, own_slot, pair_at, parameter_of, standing, standing_made}

-- an assignment and an end use a name
abbrev Uses : (ℕ → ℕ → Type 0) → Anf → Assignment → CallEnd → ℕ → Type 0
Uses H a q e p = ReadBySet q p ⊎ SetsAnother q p × (ReadByEnd e p ⊎ EndPasses H a e p)

module _ (slots params : ℕ) (g : Goto) (z : Ssa) (a : Anf) (named : Named slots params g z) (normal : IsNormalForm g z a) where
  -- what is useful one step earlier, where a slot is live by a way of so many blocks
  abbrev Known : ℕ → ℕ → Type 0
  Known k s = (c : ℕ) (y : SsaBlock) (p : ℕ) → Live g.blocks k c s → slice_get z.blocks c ≡ Some y → at_key y.map s ≡ Some p → UsefulWithin a k c p

  module _ (b : ℕ) (x : Block) (y : SsaBlock) (w : AnfBlock) (here : Standing g z a b x y w) (k s p : ℕ) (lt : s < length normal.tables) (known : Known k s) (at_end : at_key (exit_map x y) s ≡ Some p) where
    abbrev made : IsBlockOf normal.tables z.blocks b x y w
    made = made_of slots params g z a named normal b x y w here

    passes_to : (c : ℕ) → Feeds b (exit_map x y) (slice_get z.blocks c) → Live g.blocks k c s → PassesOn (UsefulWithin a k) a p (call_of normal.tables z.blocks made.names c)
    passes_to c fed live =
        let f = fed_block b (exit_map x y) (slice_get z.blocks c) fed in
        let n = has_name slots params g z named k c s f.0 live f.1 in
        let inside = from_lookup f.0.map s n.0 n.1 in
        let i = parameter_of normal.tables c f.0.map (s, n.0) inside (live_of_way g.blocks normal.tables normal.are_live k c s lt live) in
        let there = standing slots params g z a named normal c f.0 f.1 in
        let params_are = (normal.blocks.each c there.0 f.0 there.1 there.2.from f.1 there.2.made).params in
        let value = named_is (length normal.tables) (exit_map x y) made.names made.are_names s p n.0 lt at_end in
        record {
          place = i.0;
          parameter = n.0;
          argument_is = ap (λ o. slice_get (arguments_of normal.tables made.names c o) i.0) f.1 ∙ at_map (λ (q : ℕ × ℕ). named_or made.names q.0 q.1) (live_pairs normal.tables c f.0.map) i.0 (s, n.0) i.1 ∙ ap Some value;
          parameter_is = ap (λ o. slice_get (params_of o) i.0) there.2.made ∙ ap (λ ps. slice_get ps i.0) params_are ∙ at_map (λ (q : ℕ × ℕ). q.1) (live_pairs normal.tables c f.0.map) i.0 (s, n.0) i.1;
          holds = known c f.0 n.0 live f.1 n.1;
        }

    passes_along : (c d : ℕ) → c ≡ d → Feeds b (exit_map x y) (slice_get z.blocks c) → Live g.blocks k c s → PassesOn (UsefulWithin a k) a p (call_of normal.tables z.blocks made.names d)
    passes_along c d e fed live = subst (λ d. PassesOn (UsefulWithin a k) a p (call_of normal.tables z.blocks made.names d)) e (passes_to c fed live)

    read_by_term : (t u : Term) → TermRenamed (exit_map x y) t u → In t.names s → Among u.names p
    read_by_term t u r i = let n = name_of_read (exit_map x y) t u r s i in subst (Among u.names) (some_same (sym n.1 ∙ at_end)) n.2

    end_uses : (e f : End) → EndRenamed (exit_map x y) e f → AtTargets (λ c. Feeds b (exit_map x y) (slice_get z.blocks c)) e → LiveEnd e (λ c. Live g.blocks k c s) s
        → ReadByEnd (end_of normal.tables z.blocks made.names f) p ⊎ EndPasses (UsefulWithin a k) a (end_of normal.tables z.blocks made.names f) p
    end_uses (Jump c) (Jump d) r fed h = inr (passes_along c d r fed h)
    end_uses (Jump c) (Branch t d d') r fed h = absurd r
    end_uses (Jump c) (Return t) r fed h = absurd r
    end_uses (Jump c) (Fail l) r fed h = absurd r
    end_uses (Branch t c c') (Branch u d d') r fed (inl i) = inl (read_by_term t u r.0 i)
    end_uses (Branch t c c') (Branch u d d') r fed (inr (inl h)) = inr (inl (passes_along c d r.1 fed.0 h))
    end_uses (Branch t c c') (Branch u d d') r fed (inr (inr h)) = inr (inr (passes_along c' d' r.2 fed.1 h))
    end_uses (Branch t c c') (Jump d) r fed h = absurd r
    end_uses (Branch t c c') (Return u) r fed h = absurd r
    end_uses (Branch t c c') (Fail l) r fed h = absurd r
    end_uses (Return t) (Return u) r fed h = inl (read_by_term t u r h)
    end_uses (Return t) (Jump d) r fed h = absurd r
    end_uses (Return t) (Branch u d d') r fed h = absurd r
    end_uses (Return t) (Fail l) r fed h = absurd r
    end_uses (Fail l) f r fed h = absurd h

  -- the name of a live slot is useful
  useful_at : (k s b : ℕ) (y : SsaBlock) (p : ℕ) → s < length normal.tables → Live g.blocks k b s → slice_get z.blocks b ≡ Some y → at_key y.map s ≡ Some p → UsefulWithin a k b p
  useful_at zero s b y p lt h at e = absurd h
  useful_at (suc k) s b y p lt h at e =
      let st = standing slots params g z a named normal b y at in
      let x = st.0 in
      let w = st.1 in
      let here = st.2 in
      let made = made_of slots params g z a named normal b x y w here in
      let renamed = named.blocks b x y here.from at in
      let fed = (named.edges b x y here.from at).each in
      let live : LiveIn (Some x) (λ c. Live g.blocks k c s) s = subst (λ o. LiveIn o (λ c. Live g.blocks k c s) s) here.from h in
      let known : Known k s = λ c y p live at e. useful_at k s c y p lt live at e in
      let own : slice_get z.names p ≡ Some s = own_slot slots params g z a named normal b y at (s, p) (from_lookup y.map s p e) in
      let uses : Uses (UsefulWithin a k) a y.set (end_of normal.tables z.blocks made.names y.end) p = elim (live_cases x.set (LiveEnd x.end (λ c. Live g.blocks k c s) s) s live) [
        | inl r ↦ let n = set_reads z.names y.map x.set y.set renamed.set s r in inl (subst (ReadBySet y.set) (some_same (sym n.1 ∙ e)) n.2)
        | inr later ↦
            let at_end : at_key (exit_map x y) s ≡ Some p = exit_other z.names y.map x.set y.set renamed.set s later.0 ∙ e in
            inr (sets_another z.names y.map x.set y.set renamed.set s p later.0 own, end_uses b x y w here k s p lt known at_end x.end y.end renamed.end fed later.1)
      ] in
      let in_set : Uses (UsefulWithin a k) a w.set (end_of normal.tables z.blocks made.names y.end) p = subst (λ q. Uses (UsefulWithin a k) a q (end_of normal.tables z.blocks made.names y.end) p) (sym made.set) uses in
      let in_block : Uses (UsefulWithin a k) a w.set w.end p = subst (λ f. Uses (UsefulWithin a k) a w.set f p) (sym made.end) in_set in
      subst (λ o. UsedHere (UsefulWithin a k) a o p) (sym here.made) in_block

  pub all_useful : UsefulParameters a
  all_useful = record {
    each = λ b w at i p at_p.
        let st = standing_made slots params g z a named normal b w at in
        let y = st.1 in
        let here = st.2 in
        let made = made_of slots params g z a named normal b st.0 y w here in
        let at' : slice_get (parameters normal.tables b y.map) i ≡ Some p = subst (λ ps. slice_get ps i ≡ Some p) made.params at_p in
        let q = from_at_map (λ (p : ℕ × ℕ). p.1) (live_pairs normal.tables b y.map) i p at' in
        let inside = pair_at normal.tables b y.map i q.0 q.1 in
        let way = way_of g.blocks normal.tables normal.are_live b q.0.0 inside.1 in
        let found = in_lookup y.map q.0 (map_differs slots params g z a named normal b y here.named) inside.0 in
        let lt = slot_within g.blocks normal.tables normal.are_live b q.0.0 inside.1 in
        record { steps = way.0; within = subst (UsefulWithin a way.0 b) q.2 (useful_at way.0 q.0.0 b y q.0.1 lt way.1 here.named found) };
  }
