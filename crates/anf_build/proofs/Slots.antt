-- Live slots have names.
use Rattle.std.proofs.Common.{◌≡◌, ℕ, zero, suc, ◌<◌, Bool, true, false, List, [], length, get_or, slice_get, Option, Some, None, refl, sym, ap, ◌∙◌, subst, inl, inr}
use Rattle.std.proofs.lemmas.List.{get_or_past}
use Rattle.std.proofs.lemmas.Option.{slice_get_within}
use Rattle.block_forms.specs.declared.forms.Block.{Block}
use Rattle.block_forms.specs.declared.forms.End.{End}
use Rattle.block_forms.specs.declared.forms.End.TheVariants.{Jump, Branch, Return, Fail}
use Rattle.block_forms.specs.declared.forms.Goto.{Goto}
use Rattle.block_forms.specs.declared.forms.Ssa.{Ssa}
use Rattle.block_forms.specs.declared.forms.SsaBlock.{SsaBlock}
use Rattle.block_forms.specs.Forms.{AtTargets, Pairs, at_key}
use Rattle.block_forms.specs.Live.{Live, LiveEnd, LiveIn}
use Rattle.block_forms.specs.Named.{EndRenamed, Feeds, Named, exit_map}
use Rattle.block_graph.specs.Liveness.{marked}
use Rattle.block_graph.specs.Tables.{AreLiveTables, live_by}
use Rattle.block_graph.proofs.Lists.{from_lookup, some_at, within_or_past}
use Rattle.block_graph.proofs.Marking.{live_marked}
use Rattle.anf_build.proofs.Names.{exit_other, fed_block, fed_name, live_cases, name_of_read, set_reads}

-- ---- tables

module _ (g : List Block) (tables : List (List Bool)) (of : AreLiveTables g tables) where
  pub slot_within : (b s : ℕ) → live_by tables b s ≡ true → s < length tables
  slot_within b s h = elim (within_or_past s (length tables)) [
    | inl lt ↦ lt
    | inr le ↦ absurd (let e : live_by tables b s ≡ false = ap (λ l. marked l b) (get_or_past tables s [] le) in let f : ⊥ = cc (sym h ∙ e) in f)
  ]

  pub way_of : (b s : ℕ) → live_by tables b s ≡ true → (k : ℕ) × Live g k b s
  way_of b s h = (of s (slot_within b s h)).only b h

  pub live_of_way : (k b s : ℕ) → s < length tables → Live g k b s → live_by tables b s ≡ true
  live_of_way k b s lt h = live_marked g s (get_or tables s []) (of s lt).closed k b h

-- ---- names of live slots

module _ (slots params : ℕ) (g : Goto) (z : Ssa) (named : Named slots params g z) where
  -- the block of the goto form that a block of the SSA form stands for
  pub from_block : (b : ℕ) (y : SsaBlock) → slice_get z.blocks b ≡ Some y → (x : Block) × (slice_get g.blocks b ≡ Some x)
  from_block b y at = some_at g.blocks b (subst (λ k. b < k) named.as_many_blocks (slice_get_within z.blocks b y at))

  end_has : (next : ℕ → Type 0) (s b : ℕ) → ((c : ℕ) (y : SsaBlock) → next c → slice_get z.blocks c ≡ Some y → (n : ℕ) × (at_key y.map s ≡ Some n))
      → (exits : Pairs) (e f : End) → EndRenamed exits e f → AtTargets (λ c. Feeds b exits (slice_get z.blocks c)) e → LiveEnd e next s → (n : ℕ) × (at_key exits s ≡ Some n)
  end_has next s b has exits e f r fed h = go e f r fed h
    where
      passed : (c : ℕ) → Feeds b exits (slice_get z.blocks c) → next c → (n : ℕ) × (at_key exits s ≡ Some n)
      passed c fed h =
          let y = fed_block b exits (slice_get z.blocks c) fed in
          let p = has c y.0 h y.1 in
          let n = fed_name b exits y.0 y.2 (s, p.0) (from_lookup y.0.map s p.0 p.1) in
          (n.0, n.1)

      go : (e f : End) → EndRenamed exits e f → AtTargets (λ c. Feeds b exits (slice_get z.blocks c)) e → LiveEnd e next s → (n : ℕ) × (at_key exits s ≡ Some n)
      go (Jump c) f r fed h = passed c fed h
      go (Branch t c d) (Branch u c' d') r fed (inl i) = let n = name_of_read exits t u r.0 s i in (n.0, n.1)
      go (Branch t c d) (Jump c') r fed h = absurd r
      go (Branch t c d) (Return u) r fed h = absurd r
      go (Branch t c d) (Fail k) r fed h = absurd r
      go (Branch t c d) (Branch u c' d') r fed (inr (inl h)) = passed c fed.0 h
      go (Branch t c d) (Branch u c' d') r fed (inr (inr h)) = passed d fed.1 h
      go (Return t) (Return u) r fed h = let n = name_of_read exits t u r s h in (n.0, n.1)
      go (Return t) (Jump c) r fed h = absurd r
      go (Return t) (Branch u c d) r fed h = absurd r
      go (Return t) (Fail k) r fed h = absurd r
      go (Fail k) f r fed h = absurd h

  -- a live slot has a name
  pub has_name : (k b s : ℕ) (y : SsaBlock) → Live g.blocks k b s → slice_get z.blocks b ≡ Some y → (n : ℕ) × (at_key y.map s ≡ Some n)
  has_name zero b s y h at = absurd h
  has_name (suc k) b s y h at =
      let x = from_block b y at in
      let live : LiveIn (Some x.0) (λ c. Live g.blocks k c s) s = subst (λ o. LiveIn o (λ c. Live g.blocks k c s) s) x.1 h in
      let renamed = named.blocks b x.0 y x.1 at in
      let fed = (named.edges b x.0 y x.1 at).each in
      elim (live_cases x.0.set (LiveEnd x.0.end (λ c. Live g.blocks k c s) s) s live) [
        | inl r ↦ let n = set_reads z.names y.map x.0.set y.set renamed.set s r in (n.0, n.1)
        | inr later ↦
            let n = end_has (λ c. Live g.blocks k c s) s b (λ c y h at. has_name k c s y h at) (exit_map x.0 y) x.0.end y.end renamed.end fed later.1 in
            (n.0, sym (exit_other z.names y.map x.0.set y.set renamed.set s later.0) ∙ n.1)
      ]
