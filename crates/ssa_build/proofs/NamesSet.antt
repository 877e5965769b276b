-- Each name that is kept beyond the slots' own is that of a φ or of an assignment that is written.
use Rattle.std.proofs.Common.{◌≡◌, ◌⊎◌, ℕ, ◌+◌, ◌<◌, ◌≤◌, Bool, true, false, if◌then◌else◌, List, length, get_or, slice_get, nat_eq, Option, Some, refl, sym, ap, ◌∙◌, subst, inl, inr, arith}
use Rattle.std.proofs.lemmas.List.{get_or_default}
use Rattle.std.proofs.lemmas.Option.{get_or_from_slice_get, slice_get-get_or, slice_get_within}
use Rattle.std.specs.List.{filter}
use Rattle.block_forms.specs.Places.{In}
use Rattle.ssa_build.specs.declared.full.FullForm.{FullForm}
use Rattle.ssa_build.specs.declared.layout.Layout.{Layout}
use Rattle.ssa_build.specs.Forms.{Block, Phi, SsaBlock, Term}
use Rattle.ssa_build.specs.FullForms.{IsFullForm, live_in, phi_name, set_name}
use Rattle.ssa_build.specs.FullJoins.{joins_below}
use Rattle.ssa_build.specs.Joins.{IsRoot, Join, Merged}
use Rattle.block_graph.specs.Ranges.{count_from}
use Rattle.ssa_build.specs.Maximal.{full_block, full_phi, full_phis, named_set, numbered}
use Rattle.ssa_build.specs.Merging.{is_end, new_name, replacing}
use Rattle.ssa_build.specs.Names.{has_phi}
use Rattle.ssa_build.specs.Numbers.{Numbers}
use Rattle.ssa_build.proofs.Built.{from_here, from_joins}
use Rattle.ssa_build.proofs.BuiltForm.{built_form}
use Rattle.block_graph.proofs.Ranges.{in_count}
use Rattle.ssa_build.proofs.Counting.{numbered_at}
use Rattle.block_graph.proofs.Lists.{at_map, in_filter, in_map, some_at, tests_same, within_or_past}
use Rattle.ssa_build.proofs.Merges.{replaced_block, replaced_set}
use Rattle.ssa_build.proofs.NamesApart.{phi_high, phi_is, set_is, slot_named}
use Rattle.ssa_build.proofs.NamesTraced.{IsOfPhi, IsOfSet, traced}
use Rattle.ssa_build.proofs.Naming.{Assigns, Sets}
use Rattle.ssa_build.proofs.Premises.{Closed, SetsBelow}
use Rattle.ssa_build.proofs.Replacing.{phi_on}

-- where a φ stands the block isn't the entry, and the slot is live
phi_where : (l : Layout) (live : ℕ → ℕ → Bool) (b s : ℕ) → has_phi l live b s ≡ true → (nat_eq b l.entry ≡ false) × (live b s ≡ true)
phi_where l live b s h = go (nat_eq b l.entry) refl h
  where
    go : (c : Bool) → nat_eq b l.entry ≡ c → (if c then false else live b s) ≡ true → (nat_eq b l.entry ≡ false) × (live b s ≡ true)
    go true e q = absurd (let no : ⊥ = cc q in no)
    go false e q = (e, q)

assigns_on : (τ : ℕ → ℕ) (stays : ℕ → Bool) (slots entry : ℕ) (g : List Block) (live : ℕ → ℕ → Bool) (phi_name : ℕ → ℕ → ℕ) (set_name : ℕ → ℕ) (b k : ℕ) (a : ℕ × Term) (o : Option (ℕ × Term))
    → o ≡ Some a → τ (set_name b) ≡ k → Assigns (replaced_set τ stays (named_set slots entry g live phi_name set_name b o)) k
assigns_on τ stays slots entry g live phi_name set_name b k a o e q = subst (λ v. Assigns (replaced_set τ stays (named_set slots entry g live phi_name set_name b v)) k) (sym e) q

module _ (g : List Block) (f : FullForm) (form : IsFullForm g f) (sets : SetsBelow f.layout.slots g) (closed : Closed f.layout.slots f.layout.params f.layout.entry g (live_in f)) (joins : List Join) (of : joins ≡ joins_below f g f.layout.blocks) where
  abbrev l : Layout
  l = f.layout

  abbrev live : ℕ → ℕ → Bool
  live = live_in f

  abbrev F : ℕ → Block → SsaBlock
  F = full_block l.slots l.entry g live (phi_name f) (set_name f)

  abbrev φ_of : ℕ → ℕ → Phi
  φ_of b s = full_phi l.slots l.entry g live (phi_name f) (set_name f) b s

  own_slot : (s : ℕ) → s < l.slots → slice_get f.names.slots.items s ≡ Some s
  own_slot = slot_named l live g f.names.slots.items f.names.phis.items f.names.sets.items form.names form.sized

  -- no join has a slot's own name
  joins_high : (i : ℕ) (j : Join) → slice_get joins i ≡ Some j → l.slots ≤ j.name
  joins_high i j h =
      let r = from_joins g f form sets closed joins of i j h in
      let high = phi_high l live g f.names.slots.items f.names.phis.items f.names.sets.items form.names form.sized r.0 r.3 r.1 (from_here g f form sets closed r.0 r.3 r.4).1 in
      subst (λ v. l.slots ≤ v) (ap (λ (v : Join). v.name) r.5) high

  phi_in : (b s : ℕ) (x : Block) → s < l.slots → has_phi l live b s ≡ true → In (F b x).phis (φ_of b s)
  phi_in b s x lt h =
      let w = phi_where l live b s h in
      let i : In (filter (live b) (count_from 0 l.slots)) s = in_filter (live b) (count_from 0 l.slots) s (in_count 0 l.slots s (omega arith) (omega (arith, lt))) w.1 in
      subst (λ c. In (full_phis l.slots l.entry g live (phi_name f) (set_name f) c b) (φ_of b s)) (sym w.0) (in_map (φ_of b) (filter (live b) (count_from 0 l.slots)) s i)

  module _ (into numbers names : List ℕ) (merged : Merged f.names.slots.items joins into) (numbers_are : Numbers f.names.slots.items into numbers names) where
    abbrev τ : ℕ → ℕ
    τ = new_name into numbers

    abbrev stays : ℕ → Bool
    stays = is_end (replacing into)

    own_in : (s : ℕ) → s < l.slots → s < length into
    own_in s lt = subst (λ v. s < v) (sym merged.sized) (slice_get_within f.names.slots.items s s (own_slot s lt))

    own_root : (s : ℕ) → s < l.slots → IsRoot into s
    own_root s lt = merged.kept s (own_in s lt) (λ i j h e. let le = joins_high i j h in omega (arith, le, lt, e))

    own_number : (s : ℕ) → s < l.slots → get_or numbers s 0 ≡ s
    own_number s lt = numbers_are.first s (own_in s lt) (λ k less. own_root k (omega (arith, less, lt)))

    pub own_names : (s : ℕ) → s < l.slots → slice_get names s ≡ Some s
    own_names s lt =
        let q = numbers_are.slot s (own_in s lt) (own_root s lt) in
        let e : get_or names s 0 ≡ s = ap (λ v. get_or names v 0) (sym (own_number s lt)) ∙ q.1 ∙ get_or_from_slice_get f.names.slots.items s s 0 (own_slot s lt) in
        slice_get-get_or names s 0 (subst (λ v. v < length names) (own_number s lt) q.0) ∙ ap Some e

    -- the old name of a kept one
    old : (k : ℕ) → l.slots ≤ k → k < length names → (n : ℕ) × (l.slots ≤ n) × (n < length into) × (replacing into n ≡ n) × (τ n ≡ k)
    old k le lt = let r = numbers_are.used k lt in go r.0 r.1 r.2 r.3 (within_or_past r.0 l.slots)
      where
        go : (n : ℕ) → n < length into → IsRoot into n → get_or numbers n 0 ≡ k → (n < l.slots) ⊎ (l.slots ≤ n) → (n : ℕ) × (l.slots ≤ n) × (n < length into) × (replacing into n ≡ n) × (τ n ≡ k)
        go n n_in root e (inl less) = let own = own_number n less in absurd (let no : ⊥ = omega (arith, own, e, less, le) in no)
        go n n_in root e (inr past) =
            let same : replacing into n ≡ n = get_or_default into n n 0 n_in ∙ root in
            (n, past, n_in, same, ap (λ v. get_or numbers v 0) same ∙ e)

    written_at : (b : ℕ) (x : Block) → slice_get g b ≡ Some x → slice_get (built_form f g into numbers names).blocks b ≡ Some (replaced_block τ stays (F b x))
    written_at b x at =
        at_map (replaced_block τ stays) (numbered F 0 g) b (F b x) (numbered_at F 0 b g x at ∙ ap (λ v. Some (F v x)) (let q : 0 + b ≡ b = omega arith in q))

    abbrev IsSet : ℕ → Type 0
    IsSet k = (b : ℕ) × (y : SsaBlock) × (slice_get (built_form f g into numbers names).blocks b ≡ Some y) × Sets y k

    by_phi : (n k : ℕ) → replacing into n ≡ n → τ n ≡ k → IsOfPhi l live g l.blocks n → IsSet k
    by_phi n k root e r =
        let x = some_at g r.0 (subst (λ v. r.0 < v) (sym form.sized) r.2) in
        let name : phi_name f r.0 r.1 ≡ n = phi_is l live g f.names.slots.items f.names.phis.items f.names.sets.items form.names form.sized r.0 r.1 r.2 r.3 ∙ r.5 in
        let ends : stays (phi_name f r.0 r.1) ≡ true = ap stays name ∙ tests_same (replacing into n) n root in
        let there = phi_on τ stays (F r.0 x.0) (φ_of r.0 r.1) (phi_in r.0 r.1 x.0 r.3 r.4) ends in
        (r.0, replaced_block τ stays (F r.0 x.0), written_at r.0 x.0 x.1, inl (Rattle.ssa_build.proofs.Merges.replaced_phi τ stays (φ_of r.0 r.1), there, ap τ name ∙ e))

    by_set : (n k : ℕ) → τ n ≡ k → IsOfSet l live g l.blocks n → IsSet k
    by_set n k e r =
        let name : set_name f r.0 ≡ n = set_is l live g f.names.slots.items f.names.phis.items f.names.sets.items form.names form.sized r.0 r.3 ∙ r.6 in
        (r.0, replaced_block τ stays (F r.0 r.1), written_at r.0 r.1 r.4, inr (assigns_on τ stays l.slots l.entry g live (phi_name f) (set_name f) r.0 k r.2 r.1.set r.5 (ap τ name ∙ e)))

    pub names_set : (k : ℕ) → l.slots ≤ k → k < length names → (b : ℕ) × (y : SsaBlock) × (slice_get (built_form f g into numbers names).blocks b ≡ Some y) × Sets y k
    names_set k le lt =
        let r = old k le lt in
        let long : length into ≡ length (Rattle.ssa_build.specs.Names.names_below l live g l.blocks) = merged.sized ∙ ap length form.names.slots_are in
        elim (traced l live g l.blocks r.0 r.1 (subst (λ v. r.0 < v) long r.2)) [
          | inl q ↦ by_phi r.0 k r.3 r.4 q
          | inr q ↦ by_set r.0 k r.4 q
        ]
