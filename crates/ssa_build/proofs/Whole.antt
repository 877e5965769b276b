-- The builder's steps in a row.
use Rattle.std.proofs.Common.{◌^◌, true, false, ap, ◌∙◌, ◌≡◌, ℕ, ◌<◌, List, length, slice_get, Some, sym, subst, arith}
use Rattle.block_forms.specs.Lowered.{BlockBelow, NoWayTo, end_leads}
use Rattle.block_forms.specs.Named.{Named, leads}
use Rattle.block_forms.specs.Places.{Each}
use Rattle.ssa_build.specs.declared.full.FullForm.{FullForm}
use Rattle.ssa_build.specs.declared.layout.Layout.{Layout}
use Rattle.block_forms.specs.Leading.{LeadsWithin}
use Rattle.ssa_build.specs.Forms.{Block, Goto, Ssa, SsaBlock}
use Rattle.ssa_build.specs.FullForms.{IsFullForm, live_in}
use Rattle.ssa_build.specs.FullJoins.{joins_below}
use Rattle.ssa_build.specs.Joins.{Join, Merged, WellFormed}
use Rattle.block_forms.specs.Live.{Live, OnlyParametersLive}
use Rattle.ssa_build.specs.Numbers.{Numbers}
use Rattle.block_forms.specs.Trivial.{HasNoTrivial}
use Rattle.ssa_build.specs.SetNames.{NamesAreSet}
use Rattle.ssa_build.specs.Writing.{AreNewBlocks}
use Rattle.ssa_build.proofs.Built.{builds, formed}
use Rattle.ssa_build.proofs.ByPlaces.{named_by_places}
use Rattle.ssa_build.proofs.Closing.{ReadsBelow, closed, reads_below, sets_below}
use Rattle.ssa_build.proofs.Edges.{leads_from_edge}
use Rattle.ssa_build.proofs.NamesApart.{all_fit}
use Rattle.ssa_build.proofs.NamesSet.{names_set, own_names}
use Rattle.ssa_build.proofs.Naming.{Edge, IsNamed}
use Rattle.ssa_build.proofs.Premises.{Closed}
use Rattle.ssa_build.proofs.Same.{written_same}
use Rattle.ssa_build.proofs.SetSomewhere.{set_somewhere}

abbrev pub ssa : List ℕ → List SsaBlock → Ssa
ssa ns bs = record { names = ns; blocks = bs }

-- what the builder is handed, and what it has made of it
pub record Held (g : Goto) (f : FullForm) (joins : List Join) : Type 0 where
  pub form : IsFullForm g.blocks f
  pub entered : f.layout.entry ≡ g.entry
  pub entry_in : g.entry < length g.blocks
  pub targets : Each (LeadsWithin (length g.blocks)) g.blocks
  pub below : Each (BlockBelow f.layout.slots) g.blocks
  pub no_way : Each (NoWayTo g.entry) g.blocks
  pub entry_live : OnlyParametersLive f.layout.params g
  pub flat : joins ≡ joins_below f g.blocks f.layout.blocks

-- the same for the layout that was handed on, and for the blocks as they were handed on
pub held : (g : Goto) (f : FullForm) (joins : List Join) (l : Layout) (blocks : List Block) → f.layout ≡ l → blocks ≡ g.blocks → IsFullForm blocks f → l.entry ≡ g.entry → g.entry < length g.blocks → Each (LeadsWithin (length g.blocks)) g.blocks → Each (BlockBelow l.slots) g.blocks → Each (NoWayTo g.entry) g.blocks → OnlyParametersLive l.params g → joins ≡ joins_below f blocks f.layout.blocks → Held g f joins
held g f joins l blocks e same form entered entry_in targets below no_way entry_live flat = record {
  form = subst (λ v. IsFullForm v f) same form;
  entered = ap (λ (v : Layout). v.entry) e ∙ entered;
  entry_in = entry_in;
  targets = targets;
  below = subst (λ (v : Layout). Each (BlockBelow v.slots) g.blocks) (sym e) below;
  no_way = no_way;
  entry_live = subst (λ (v : Layout). OnlyParametersLive v.params g) (sym e) entry_live;
  flat = flat ∙ ap (λ v. joins_below f v f.layout.blocks) same;
}

pub new_blocks_held : {n : ℕ} (g : Goto) (f : FullForm) (ys : List SsaBlock) {blocks : List Block} {into into' numbers numbers' : List ℕ} → blocks ≡ g.blocks → into ≡ into' → numbers ≡ numbers' → AreNewBlocks f blocks into numbers n ys → AreNewBlocks f g.blocks into' numbers' n ys
new_blocks_held {n} g f ys {blocks} {into} {into'} {numbers} {numbers'} p q r new =
    subst (λ v. AreNewBlocks f v into' numbers' n ys) p (subst (λ v. AreNewBlocks f blocks v numbers' n ys) q (subst (λ v. AreNewBlocks f blocks into v n ys) r new))

module _ (g : Goto) (f : FullForm) (joins : List Join) (h : Held g f joins) where
  abbrev l : Layout
  l = f.layout

  no_edge : (b : ℕ) → Edge g.blocks b l.entry → ⊥
  no_edge b edge =
      let yes : end_leads edge.0.end l.entry ≡ true = ap (λ o. leads o l.entry) (sym edge.1) ∙ leads_from_edge g.blocks b l.entry edge in
      let no : end_leads edge.0.end g.entry ≡ false = (h.no_way b edge.0 edge.1).elsewhere in
      let f : ⊥ = cc (sym yes ∙ ap (end_leads edge.0.end) h.entered ∙ no) in f

  live_params : (k s : ℕ) → Live g.blocks k l.entry s → s < l.params
  live_params k s i = h.entry_live.each k s (subst (λ e. Live g.blocks k e s) h.entered i)

  closed_here : Closed l.slots l.params l.entry g.blocks (live_in f)
  closed_here = subst (λ n. Closed n l.params l.entry g.blocks (live_in f)) h.form.tables.live (closed g.blocks f.live.items l.params l.entry live_params no_edge (subst (λ n. ReadsBelow n g.blocks) (sym h.form.tables.live) (reads_below l.slots g.blocks h.below)) h.form.live)

  pub joins_formed : WellFormed f.names.slots.items joins
  joins_formed = formed g.blocks f h.form (sets_below l.slots g.blocks h.below) closed_here joins h.flat

  pub names_short : length f.names.slots.items < 2 ^ 32
  names_short = subst (λ v. length v < 2 ^ 32) (sym h.form.names.slots_are) (all_fit l (live_in f) g.blocks h.form.is_layout)

  module _ (into numbers names : List ℕ) (ys : List SsaBlock) (merged : Merged f.names.slots.items joins into) (numbered : Numbers f.names.slots.items into numbers names) (new : AreNewBlocks f g.blocks into numbers l.blocks ys) where
    whole : IsNamed l.slots l.params l.entry g.blocks (ssa names ys) × HasNoTrivial (ssa names ys)
    whole =
        subst (λ bs. IsNamed l.slots l.params l.entry g.blocks (ssa names bs) × HasNoTrivial (ssa names bs)) (sym (written_same f g.blocks into numbers ys h.form.sized new names))
        (builds g.blocks f h.form (sets_below l.slots g.blocks h.below) closed_here joins h.flat into numbers names merged numbered)

    pub whole_named : Named l.slots l.params g (ssa names ys)
    whole_named = named_by_places l.slots l.params g (ssa names ys) (subst (λ e. IsNamed l.slots l.params e g.blocks (ssa names ys)) h.entered whole.0) h.entry_in h.targets

    pub whole_neat : HasNoTrivial (ssa names ys)
    whole_neat = whole.1

    pub whole_set : NamesAreSet l.slots (ssa names ys)
    whole_set = record {
      own = own_names g.blocks f h.form (sets_below l.slots g.blocks h.below) closed_here joins h.flat into numbers names merged numbered;
      set = λ n le lt.
          let r = names_set g.blocks f h.form (sets_below l.slots g.blocks h.below) closed_here joins h.flat into numbers names merged numbered n le lt in
          let at : slice_get ys r.0 ≡ Some r.1 = ap (λ v. slice_get v r.0) (written_same f g.blocks into numbers ys h.form.sized new names) ∙ r.2 in
          let some = set_somewhere ys r.0 n r.1 at r.3 in
          let once = whole_named.names.set_once n lt in
          omega (arith, some, once);
    }
