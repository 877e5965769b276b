-- The normal form is that of the SSA form.
use Rattle.std.proofs.Common.{◌≡◌, ℕ, ◌<◌, Bool, true, List, [], ◌∷◌, map, length, slice_get, Option, Some, None, refl, sym, ap, ◌∙◌, subst, inl, inr}
use Rattle.std.proofs.lemmas.Option.{slice_get_within}
use Rattle.block_forms.specs.declared.forms.Block.{Block}
use Rattle.block_forms.specs.declared.forms.End.{End}
use Rattle.block_forms.specs.declared.forms.End.TheVariants.{Jump, Branch, Return, Fail}
use Rattle.block_forms.specs.declared.forms.Goto.{Goto}
use Rattle.block_forms.specs.declared.forms.Ssa.{Ssa}
use Rattle.block_forms.specs.declared.forms.SsaBlock.{SsaBlock}
use Rattle.block_forms.specs.declared.forms.Term.{Term}
use Rattle.block_forms.specs.Forms.{Assignment, AtTargets, Pairs, at_key}
use Rattle.block_forms.specs.Live.{LiveEnd}
use Rattle.block_forms.specs.Named.{AssignmentRenamed, EndRenamed, EntryHas, Feeds, MapOfParameters, Named, TermRenamed, exit_map}
use Rattle.block_forms.specs.Places.{Each, In}
use Rattle.call_forms.specs.Called.{Among, AssignmentReads, BlockCalled, Called, CallOf, EndCalled, EndReads, EntryParameters, HasName, ParametersOf, ReadsOwn, own_names}
use Rattle.call_forms.specs.declared.forms.Anf.{Anf}
use Rattle.call_forms.specs.declared.forms.AnfBlock.{AnfBlock}
use Rattle.anf_build.specs.NormalForm.{IsNormalForm}
use Rattle.anf_build.specs.Passing.{IsBlockOf, call_of, end_of, live_pairs, parameters}
use Rattle.block_graph.specs.Tables.{live_by}
use Rattle.block_graph.proofs.Lists.{from_at_map, from_filter, from_map, in_map, in_place, place_in, some_same}
use Rattle.anf_build.proofs.Lists.{Differ, differ_distinct, distinct_filter}
use Rattle.anf_build.proofs.Names.{ReadsSlot, live_by_read, slot_of_read}
use Rattle.anf_build.proofs.Blocks.{Standing, is_call, is_own, is_parameter, made_of, map_differs, own_slot, pair_at, passes_own, standing, standing_made}

-- names of distinct slots are distinct
names_differ : (names : List ℕ) (ps : Pairs) → ((p : ℕ × ℕ) → In ps p → slice_get names p.1 ≡ Some p.0) → Differ (map (λ (p : ℕ × ℕ). p.0) ps) → Differ (map (λ (p : ℕ × ℕ). p.1) ps)
names_differ names [] own d = tt
names_differ names (p ∷ ps) own d = (
  (λ i. let r = from_map (λ (p : ℕ × ℕ). p.1) ps p.1 i in
      let same : r.0.0 ≡ p.0 = some_same (sym (own r.0 (inr r.1)) ∙ ap (slice_get names) r.2 ∙ own p (inl refl)) in
      d.0 (subst (In (map (λ (p : ℕ × ℕ). p.0) ps)) same (in_map (λ (p : ℕ × ℕ). p.0) ps r.0 r.1))),
  names_differ names ps (λ q i. own q (inr i)) d.1,
)

module _ (slots params : ℕ) (g : Goto) (z : Ssa) (a : Anf) (named : Named slots params g z) (normal : IsNormalForm g z a) where
  abbrev live_at : ℕ → ℕ → Type 0
  live_at s c = live_by normal.tables c s ≡ true

  module _ (b : ℕ) (x : Block) (y : SsaBlock) (w : AnfBlock) (here : Standing g z a b x y w) where
    abbrev made : IsBlockOf normal.tables z.blocks b x y w
    made = made_of slots params g z a named normal b x y w here

    -- ---- parameters

    parameters_are : ParametersOf (length z.names) w
    parameters_are =
        let test : ℕ × ℕ → Bool = λ p. live_by normal.tables b p.0 in
        let owned : (p : ℕ × ℕ) → In (live_pairs normal.tables b y.map) p → slice_get z.names p.1 ≡ Some p.0 = λ p i. own_slot slots params g z a named normal b y here.named p (from_filter test y.map p i).0 in
        let differ : Differ (parameters normal.tables b y.map) = names_differ z.names (live_pairs normal.tables b y.map) owned (distinct_filter test (λ (p : ℕ × ℕ). p.0) y.map (map_differs slots params g z a named normal b y here.named)) in
        let of_form : Each (λ p. p < length z.names) (parameters normal.tables b y.map) = λ i p at.
        let q = from_at_map (λ (p : ℕ × ℕ). p.1) (live_pairs normal.tables b y.map) i p at in
        subst (λ n. n < length z.names) q.2 (slice_get_within z.names q.0.1 q.0.0 (owned q.0 (in_place (live_pairs normal.tables b y.map) i q.0 q.1))) in
        record {
          distinct = differ_distinct w.params (subst Differ (sym made.params) differ);
          of_form = subst (Each (λ p. p < length z.names)) (sym made.params) of_form;
        }

    -- ---- what is read

    set_reads : (o q : Assignment) → AssignmentRenamed z.names y.map o q → ((s n : ℕ) → at_key y.map s ≡ Some n → ReadsSlot o s → Among w.params n) → AssignmentReads w.params q
    set_reads None None r own = tt
    set_reads None (Some q) r own = absurd r
    set_reads (Some o) None r own = tt
    set_reads (Some o) (Some q) r own = λ i n at. let s = slot_of_read y.map o.1 q.1 r.1 i n at in own s.0 n s.2 s.1

    term_reads : (t u : Term) → TermRenamed (exit_map x y) t u → ((s n : ℕ) → at_key (exit_map x y) s ≡ Some n → In t.names s → Among (own_names w) n) → Each (Among (own_names w)) u.names
    term_reads t u r own i n at = let s = slot_of_read (exit_map x y) t u r i n at in own s.0 n s.2 s.1

    call_reads : (c d : ℕ) → c ≡ d → Feeds b (exit_map x y) (slice_get z.blocks c) → ((s n : ℕ) → at_key (exit_map x y) s ≡ Some n → live_at s c → Among (own_names w) n) → Each (Among (own_names w)) (call_of normal.tables z.blocks made.names d).args
    call_reads c d e fed own = subst (λ d. Each (Among (own_names w)) (call_of normal.tables z.blocks made.names d).args) e (passes_own slots params g z a named normal b x y w here c fed (λ s n h k. own s n k h))

    end_reads : (e f : End) → EndRenamed (exit_map x y) e f → AtTargets (λ c. Feeds b (exit_map x y) (slice_get z.blocks c)) e
        → ((s n : ℕ) → at_key (exit_map x y) s ≡ Some n → LiveEnd e (live_at s) s → Among (own_names w) n) → EndReads (own_names w) (end_of normal.tables z.blocks made.names f)
    end_reads (Jump c) (Jump d) r fed own = call_reads c d r fed own
    end_reads (Jump c) (Branch t d d') r fed own = absurd r
    end_reads (Jump c) (Return t) r fed own = absurd r
    end_reads (Jump c) (Fail k) r fed own = absurd r
    end_reads (Branch t c c') (Branch u d d') r fed own = (
      term_reads t u r.0 (λ s n k i. own s n k (inl i)),
      call_reads c d r.1 fed.0 (λ s n k h. own s n k (inr (inl h))),
      call_reads c' d' r.2 fed.1 (λ s n k h. own s n k (inr (inr h))),
    )
    end_reads (Branch t c c') (Jump d) r fed own = absurd r
    end_reads (Branch t c c') (Return u) r fed own = absurd r
    end_reads (Branch t c c') (Fail k) r fed own = absurd r
    end_reads (Return t) (Return u) r fed own = term_reads t u r own
    end_reads (Return t) (Jump d) r fed own = absurd r
    end_reads (Return t) (Branch u d d') r fed own = absurd r
    end_reads (Return t) (Fail k) r fed own = absurd r
    end_reads (Fail k) (Fail l) r fed own = tt
    end_reads (Fail k) (Jump d) r fed own = absurd r
    end_reads (Fail k) (Branch u d d') r fed own = absurd r
    end_reads (Fail k) (Return u) r fed own = absurd r

    reads_own : ReadsOwn w
    reads_own =
        let renamed = named.blocks b x y here.from here.named in
        let fed = (named.edges b x y here.from here.named).each in
        record {
          set = subst (AssignmentReads w.params) (sym made.set) (set_reads x.set y.set renamed.set (λ s n e r. is_parameter slots params g z a named normal b x y w here s n e (live_by_read x.set (LiveEnd x.end (live_at s) s) s r)));
          end = subst (EndReads (own_names w)) (sym made.end) (end_reads x.end y.end renamed.end fed (is_own slots params g z a named normal b x y w here));
        }

    -- ---- calls

    goes_on : (c d : ℕ) → c ≡ d → Feeds b (exit_map x y) (slice_get z.blocks c) → CallOf z a b d (call_of normal.tables z.blocks made.names d)
    goes_on c d e fed = subst (λ d. CallOf z a b d (call_of normal.tables z.blocks made.names d)) e (is_call slots params g z a named normal b x y w here c fed)

    end_called : (e f : End) → EndRenamed (exit_map x y) e f → AtTargets (λ c. Feeds b (exit_map x y) (slice_get z.blocks c)) e → EndCalled z a b f (end_of normal.tables z.blocks made.names f)
    end_called (Jump c) (Jump d) r fed = goes_on c d r fed
    end_called (Jump c) (Branch t d d') r fed = absurd r
    end_called (Jump c) (Return t) r fed = absurd r
    end_called (Jump c) (Fail k) r fed = absurd r
    end_called (Branch t c c') (Branch u d d') r fed = (refl, goes_on c d r.1 fed.0, goes_on c' d' r.2 fed.1)
    end_called (Branch t c c') (Jump d) r fed = absurd r
    end_called (Branch t c c') (Return u) r fed = absurd r
    end_called (Branch t c c') (Fail k) r fed = absurd r
    end_called (Return t) (Return u) r fed = refl
    end_called (Return t) (Jump d) r fed = absurd r
    end_called (Return t) (Branch u d d') r fed = absurd r
    end_called (Return t) (Fail l) r fed = absurd r
    end_called (Fail k) (Fail l) r fed = refl
    end_called (Fail k) (Jump d) r fed = absurd r
    end_called (Fail k) (Branch u d d') r fed = absurd r
    end_called (Fail k) (Return u) r fed = absurd r

    block_called : BlockCalled z a b y w
    block_called =
        let renamed = named.blocks b x y here.from here.named in
        let fed = (named.edges b x y here.from here.named).each in
        record {
          set = made.set;
          end = subst (EndCalled z a b y.end) (sym made.end) (end_called x.end y.end renamed.end fed);
        }

    has_names : Each (HasName y) w.params
    has_names i p at =
        let at' : slice_get (parameters normal.tables b y.map) i ≡ Some p = subst (λ ps. slice_get ps i ≡ Some p) made.params at in
        let q = from_at_map (λ (p : ℕ × ℕ). p.1) (live_pairs normal.tables b y.map) i p at' in
        let k = place_in y.map q.0 (pair_at normal.tables b y.map i q.0 q.1).0 in
        record { place = k.0; slot = q.0.0; there = k.1 ∙ ap (λ n. Some (q.0.0, n)) q.2 }

  -- ---- the whole

  entry_has : (o : Option SsaBlock) → slice_get z.blocks g.entry ≡ o → EntryHas (MapOfParameters params) o → EntryParameters o (slice_get a.blocks g.entry)
  entry_has None e h = absurd h
  entry_has (Some y) e h =
      let k = standing slots params g z a named normal g.entry y e in
      subst (EntryParameters (Some y)) (sym k.2.made) (has_names g.entry k.0 y k.1 k.2)

  pub is_called : Called g z a
  is_called = record {
    as_many_blocks = normal.blocks.as_many;
    parameters = λ b w at. let k = standing_made slots params g z a named normal b w at in parameters_are b k.0 k.1 w k.2;
    reads = λ b w at. let k = standing_made slots params g z a named normal b w at in reads_own b k.0 k.1 w k.2;
    blocks = λ b y w at at'.
        let k = standing slots params g z a named normal b y at in
        let same : k.1 ≡ w = some_same (sym k.2.made ∙ at') in
        subst (BlockCalled z a b y) same (block_called b k.0 y k.1 k.2);
    entry = entry_has (slice_get z.blocks g.entry) refl named.entry;
  }
