-- What the blocks that stand for those of an SSA form read, and what they pass.
use Rattle.std.proofs.Common.{◌≡◌, ℕ, suc, ◌<◌, Bool, true, List, [], ◌∷◌, map, length, slice_get, Option, Some, None, refl, sym, ap, ◌∙◌, subst, inl, inr}
use Rattle.std.proofs.lemmas.Option.{slice_get_within}
use Rattle.block_forms.specs.declared.forms.Block.{Block}
use Rattle.block_forms.specs.declared.forms.Goto.{Goto}
use Rattle.block_forms.specs.declared.forms.Ssa.{Ssa}
use Rattle.block_forms.specs.declared.forms.SsaBlock.{SsaBlock}
use Rattle.block_forms.specs.Forms.{Assignment, Pairs, at_key, source}
use Rattle.block_forms.specs.Live.{LiveEnd, LiveIn}
use Rattle.block_forms.specs.Named.{Feeds, Named, exit_map}
use Rattle.block_forms.specs.Places.{Each, In, first_of}
use Rattle.call_forms.specs.Called.{Among, CallOf, Passes, PassesNames, own_names, with_assigned}
use Rattle.call_forms.specs.declared.forms.Anf.{Anf}
use Rattle.call_forms.specs.declared.forms.AnfBlock.{AnfBlock}
use Rattle.anf_build.specs.NormalForm.{IsNormalForm}
use Rattle.anf_build.specs.Passing.{AreNames, IsBlockOf, arguments, arguments_of, call_of, live_pairs, name_or, named_or, parameters}
use Rattle.block_graph.specs.Tables.{live_by}
use Rattle.block_graph.proofs.Lists.{at_map, from_at_map, from_filter, from_lookup, in_filter, in_place, place_in, some_at, some_same}
use Rattle.anf_build.proofs.Lists.{Differ, slots_differ}
use Rattle.anf_build.proofs.Names.{Assigns, exit_cases, fed_block, fed_name, live_by_end}

pub map_length : {X Y : Type 0} (f : X → Y) (xs : List X) → length (map f xs) ≡ length xs
map_length f [] = refl
map_length f (x ∷ xs) = ap suc (map_length f xs)

-- ---- parameters

module _ (tables : List (List Bool)) (b : ℕ) (m : Pairs) where
  -- a live pair of the map gives a parameter
  pub parameter_of : (p : ℕ × ℕ) → In m p → live_by tables b p.0 ≡ true → (i : ℕ) × (slice_get (live_pairs tables b m) i ≡ Some p)
  parameter_of p i h = place_in (live_pairs tables b m) p (in_filter (λ (p : ℕ × ℕ). live_by tables b p.0) m p i h)

  pub among_parameters : (p : ℕ × ℕ) → In m p → live_by tables b p.0 ≡ true → Among (parameters tables b m) p.1
  among_parameters p i h =
      let at = parameter_of p i h in
      record { place = at.0; there = at_map (λ (p : ℕ × ℕ). p.1) (live_pairs tables b m) at.0 p at.1 }

  -- what a place of the live pairs has
  pub pair_at : (i : ℕ) (p : ℕ × ℕ) → slice_get (live_pairs tables b m) i ≡ Some p → In m p × (live_by tables b p.0 ≡ true)
  pair_at i p at = from_filter (λ (p : ℕ × ℕ). live_by tables b p.0) m p (in_place (live_pairs tables b m) i p at)

-- ---- a block's own names

pub among_assigned : (q : Assignment) (ps : List ℕ) (n : ℕ) → Assigns q n → Among (with_assigned q ps) n
among_assigned None ps n h = absurd h
among_assigned (Some b) ps n h = record { place = 0; there = ap Some h }

pub among_own : (q : Assignment) (ps : List ℕ) (n : ℕ) → Among ps n → Among (with_assigned q ps) n
among_own None ps n h = h
among_own (Some b) ps n h = record { place = suc h.place; there = h.there }

-- ---- blocks

-- block b in all three forms
pub record Standing (g : Goto) (z : Ssa) (a : Anf) (b : ℕ) (x : Block) (y : SsaBlock) (w : AnfBlock) : Type 0 where
  pub from : slice_get g.blocks b ≡ Some x
  pub named : slice_get z.blocks b ≡ Some y
  pub made : slice_get a.blocks b ≡ Some w

-- what a name in a list of names is
pub named_is : (size : ℕ) (exits : Pairs) (names : List (Option ℕ)) → AreNames size exits names → (s n other : ℕ) → s < size → at_key exits s ≡ Some n → named_or names s other ≡ n
named_is size exits names are s n other lt e = ap (λ o. name_or o other) (are.each s lt ∙ e)

module _ (slots params : ℕ) (g : Goto) (z : Ssa) (a : Anf) (named : Named slots params g z) (normal : IsNormalForm g z a) where
  pub standing : (b : ℕ) (y : SsaBlock) → slice_get z.blocks b ≡ Some y → (x : Block) × (w : AnfBlock) × Standing g z a b x y w
  standing b y at =
      let lt = slice_get_within z.blocks b y at in
      let x = some_at g.blocks b (subst (λ k. b < k) named.as_many_blocks lt) in
      let w = some_at a.blocks b (subst (λ k. b < k) (sym normal.blocks.as_many) lt) in
      (x.0, w.0, record { from = x.1; named = at; made = w.1 })

  pub standing_made : (b : ℕ) (w : AnfBlock) → slice_get a.blocks b ≡ Some w → (x : Block) × (y : SsaBlock) × Standing g z a b x y w
  standing_made b w at =
      let lt : b < length z.blocks = subst (λ k. b < k) normal.blocks.as_many (slice_get_within a.blocks b w at) in
      let y = some_at z.blocks b lt in
      let x = some_at g.blocks b (subst (λ k. b < k) named.as_many_blocks lt) in
      (x.0, y.0, record { from = x.1; named = y.1; made = at })

  pub own_slot : (b : ℕ) (y : SsaBlock) → slice_get z.blocks b ≡ Some y → (p : ℕ × ℕ) → In y.map p → slice_get z.names p.1 ≡ Some p.0
  own_slot b y at p i = let q = place_in y.map p i in (named.maps b y at).own_slots q.0 p q.1

  pub slot_in : (b : ℕ) (y : SsaBlock) → slice_get z.blocks b ≡ Some y → (p : ℕ × ℕ) → In y.map p → p.0 < length normal.tables
  slot_in b y at p i = normal.slots_in p.1 p.0 (own_slot b y at p i)

  pub map_differs : (b : ℕ) (y : SsaBlock) → slice_get z.blocks b ≡ Some y → Differ (map first_of y.map)
  map_differs b y at = slots_differ y.map (named.maps b y at).slots_differ

  module _ (b : ℕ) (x : Block) (y : SsaBlock) (w : AnfBlock) (here : Standing g z a b x y w) where
    abbrev pub made_of : IsBlockOf normal.tables z.blocks b x y w
    made_of = normal.blocks.each b x y w here.from here.named here.made

    -- a name of a slot that is live here is a parameter
    pub is_parameter : (s n : ℕ) → at_key y.map s ≡ Some n → LiveIn (Some x) (λ c. live_by normal.tables c s ≡ true) s → Among w.params n
    is_parameter s n e live =
        let i = from_lookup y.map s n e in
        let lt = slot_in b y here.named (s, n) i in
        subst (λ ps. Among ps n) (sym made_of.params) (among_parameters normal.tables b y.map (s, n) i ((normal.are_live s lt).closed b x here.from live))

    -- a name of a slot that is live at the end is the block's own
    pub is_own : (s n : ℕ) → at_key (exit_map x y) s ≡ Some n → LiveEnd x.end (λ c. live_by normal.tables c s ≡ true) s → Among (own_names w) n
    is_own s n e live = elim (exit_cases z.names y.map x.set y.set (named.blocks b x y here.from here.named).set s n e) [
      | inl q ↦ among_assigned w.set w.params n (subst (λ o. Assigns o n) (sym made_of.set) q)
      | inr q ↦ among_own w.set w.params n (is_parameter s n q.1 (live_by_end x.set (LiveEnd x.end (λ c. live_by normal.tables c s ≡ true) s) s q.0 live))
    ]

    -- ---- calls of block c

    module _ (c : ℕ) (fed : Feeds b (exit_map x y) (slice_get z.blocks c)) where
      -- what is passed at a place: the name of a live slot
      pub passed_at : (i n : ℕ) → slice_get (call_of normal.tables z.blocks made_of.names c).args i ≡ Some n → (s : ℕ) × (live_by normal.tables c s ≡ true) × (at_key (exit_map x y) s ≡ Some n)
      passed_at i n at =
          let f = fed_block b (exit_map x y) (slice_get z.blocks c) fed in
          let at' : slice_get (arguments normal.tables made_of.names c f.0.map) i ≡ Some n = sym (ap (λ o. slice_get (arguments_of normal.tables made_of.names c o) i) f.1) ∙ at in
          let q = from_at_map (λ (p : ℕ × ℕ). named_or made_of.names p.0 p.1) (live_pairs normal.tables c f.0.map) i n at' in
          let p = pair_at normal.tables c f.0.map i q.0 q.1 in
          let m = fed_name b (exit_map x y) f.0 f.2 q.0 p.0 in
          let same = named_is (length normal.tables) (exit_map x y) made_of.names made_of.are_names q.0.0 m.0 q.0.1 (slot_in c f.0 f.1 q.0 p.0) m.1 in
          (q.0.0, p.1, m.1 ∙ ap Some (sym same ∙ q.2))

      pub passes_own : ((s n : ℕ) → live_by normal.tables c s ≡ true → at_key (exit_map x y) s ≡ Some n → Among (own_names w) n) → Each (Among (own_names w)) (call_of normal.tables z.blocks made_of.names c).args
      passes_own own i n at = let r = passed_at i n at in own r.0 n r.1 r.2

      passes_names : (y' : SsaBlock) → slice_get z.blocks c ≡ Some y' → Feeds b (exit_map x y) (Some y') → PassesNames y'.phis b (parameters normal.tables c y'.map) (arguments normal.tables made_of.names c y'.map)
      passes_names y' at fed = record {
        as_many = map_length (λ (p : ℕ × ℕ). named_or made_of.names p.0 p.1) (live_pairs normal.tables c y'.map) ∙ sym (map_length (λ (p : ℕ × ℕ). p.1) (live_pairs normal.tables c y'.map));
        each = λ i p n at_p at_n.
            let q = from_at_map (λ (p : ℕ × ℕ). p.1) (live_pairs normal.tables c y'.map) i p at_p in
            let r = from_at_map (λ (p : ℕ × ℕ). named_or made_of.names p.0 p.1) (live_pairs normal.tables c y'.map) i n at_n in
            let one : q.0 ≡ r.0 = some_same (sym q.1 ∙ r.1) in
            let k = pair_at normal.tables c y'.map i q.0 q.1 in
            let m = fed_name b (exit_map x y) y' fed q.0 k.0 in
            let same = named_is (length normal.tables) (exit_map x y) made_of.names made_of.are_names q.0.0 m.0 q.0.1 (slot_in c y' at q.0 k.0) m.1 in
            ap (source y'.phis b) (sym q.2) ∙ m.2 ∙ ap Some (sym same ∙ ap (λ (p : ℕ × ℕ). named_or made_of.names p.0 p.1) one ∙ r.2);
      }

      pub is_call : CallOf z a b c (call_of normal.tables z.blocks made_of.names c)
      is_call =
          let f = fed_block b (exit_map x y) (slice_get z.blocks c) fed in
          let k = standing c f.0 f.1 in
          let params_are = (normal.blocks.each c k.0 f.0 k.1 k.2.from f.1 k.2.made).params in
          let passes : PassesNames f.0.phis b k.1.params (arguments normal.tables made_of.names c f.0.map) = subst (λ ps. PassesNames f.0.phis b ps (arguments normal.tables made_of.names c f.0.map)) (sym params_are) (passes_names f.0 f.1 f.2) in
          let in_form : Passes b (Some f.0) (slice_get a.blocks c) (arguments normal.tables made_of.names c f.0.map) = subst (λ o. Passes b (Some f.0) o (arguments normal.tables made_of.names c f.0.map)) (sym k.2.made) passes in
          record { target = refl; passes = subst (λ o. Passes b o (slice_get a.blocks c) (arguments_of normal.tables made_of.names c o)) (sym f.1) in_form }
