-- What the builder's parts make is named and has no trivial φ.
use Rattle.std.proofs.Common.{◌≤◌, ◌≡◌, ◌⊎◌, ℕ, zero, suc, ◌+◌, ◌<◌, Bool, true, false, if◌then◌else◌, List, [], ◌∷◌, ◌++◌, map, length, get_or, slice_get, nat_eq, Some, refl, sym, ap, ◌∙◌, subst, inl, inr, arith}
use Rattle.std.proofs.lemmas.Option.{slice_get_within}
use Rattle.std.specs.List.{filter}
use Rattle.ssa_build.specs.declared.full.FullForm.{FullForm}
use Rattle.ssa_build.specs.declared.layout.Layout.{Layout}
use Rattle.ssa_build.specs.Forms.{Block, Phi, Ssa, SsaBlock}
use Rattle.ssa_build.specs.FullForms.{IsFullForm, after, live_in, phi_name, set_name}
use Rattle.ssa_build.specs.FullJoins.{block_joins, joins_below, slot_join}
use Rattle.ssa_build.specs.Joins.{Join, Merged, WellFormed}
use Rattle.block_forms.specs.Places.{In}
use Rattle.block_graph.specs.Ranges.{count_from}
use Rattle.ssa_build.specs.Maximal.{full_block, full_phi, full_phis, numbered}
use Rattle.ssa_build.specs.Numbers.{Numbers}
use Rattle.block_graph.specs.Predecessors.{predecessors_of}
use Rattle.block_forms.specs.Trivial.{HasNoTrivial}
use Rattle.ssa_build.proofs.BuiltForm.{built_form, full_form}
use Rattle.ssa_build.proofs.Counting.{at_numbered, distinct_count, distinct_map, numbered_at}
use Rattle.ssa_build.proofs.FullForm.{distinct_filter_plain, from_sets, full_named}
use Rattle.ssa_build.proofs.JoinsOf.{IsJoinOf, JoinsOf, operand}
use Rattle.ssa_build.proofs.Linked.{merges, reduces, well_formed}
use Rattle.block_graph.proofs.Lists.{compared, from_both, from_filter, from_map, in_left, in_map, in_place, in_right, other_number, place_in, some_at, some_same}
use Rattle.ssa_build.proofs.Lists.{distinct_both, same_place}
use Rattle.ssa_build.proofs.NamesApart.{numbering, phi_high, set_high, slot_named}
use Rattle.ssa_build.proofs.Naming.{Differ, IsNamed, Sets}
use Rattle.ssa_build.proofs.Premises.{Closed, Numbering, SetsBelow}
use Rattle.ssa_build.proofs.Renumbered.{renumbers}

abbrev join_name : Join → ℕ
join_name j = j.name

operands_of : (f : ℕ → ℕ) (ps : List ℕ) → map operand (map (λ p. (p, f p)) ps) ≡ map f ps
operands_of f [] = refl
operands_of f (p ∷ ps) = ap (λ l. f p ∷ l) (operands_of f ps)

module _ (g : List Block) (f : FullForm) (form : IsFullForm g f) (sets : SetsBelow f.layout.slots g) (closed : Closed f.layout.slots f.layout.params f.layout.entry g (live_in f)) where
  abbrev l : Layout
  l = f.layout

  sized : length g ≡ l.blocks
  sized = form.sized

  abbrev live : ℕ → ℕ → Bool
  live = live_in f

  abbrev Z : Ssa
  Z = full_form f g

  abbrev here : ℕ → List ℕ
  here b = filter (live b) (count_from 0 l.slots)

  abbrev φ_of : ℕ → ℕ → Phi
  φ_of b s = full_phi l.slots l.entry g live (phi_name f) (set_name f) b s

  abbrev F : ℕ → Block → SsaBlock
  F = full_block l.slots l.entry g live (phi_name f) (set_name f)

  num : Numbering l.slots l.params l.entry g live (phi_name f) (set_name f) f.names.slots.items
  num = numbering l live g f.names.slots.items f.names.phis.items f.names.sets.items form.names sized closed.bounded sets form.is_layout.params_first

  named : IsNamed l.slots l.params l.entry g Z
  named = full_named l.slots l.params l.entry g live (phi_name f) (set_name f) f.names.slots.items closed num

  pub from_here : (b s : ℕ) → In (here b) s → (live b s ≡ true) × (s < l.slots)
  from_here b s i = let r = from_filter (live b) (count_from 0 l.slots) s i in (r.1, closed.bounded b s r.1)

  -- ---- the list of joins

  from_block : (b : ℕ) (v : Join) → In (block_joins f g b) v → (nat_eq b l.entry ≡ false) × (s : ℕ) × In (here b) s × (slot_join f g b s ≡ v)
  from_block b v i = go (nat_eq b l.entry) refl i
    where
      go : (c : Bool) → nat_eq b l.entry ≡ c → In (if c then [] else map (slot_join f g b) (here b)) v → (nat_eq b l.entry ≡ false) × (s : ℕ) × In (here b) s × (slot_join f g b s ≡ v)
      go true e i = absurd i
      go false e i = let r = from_map (slot_join f g b) (here b) v i in (e, r.0, r.1, r.2)

  in_block : (b s : ℕ) → nat_eq b l.entry ≡ false → In (here b) s → In (block_joins f g b) (slot_join f g b s)
  in_block b s e i = subst (λ c. In (if c then [] else map (slot_join f g b) (here b)) (slot_join f g b s)) (sym e) (in_map (slot_join f g b) (here b) s i)

  from_below : (n : ℕ) (v : Join) → In (joins_below f g n) v → (b : ℕ) × (b < n) × (nat_eq b l.entry ≡ false) × (s : ℕ) × In (here b) s × (slot_join f g b s ≡ v)
  from_below zero v i = absurd i
  from_below (suc n) v i = go (from_both (joins_below f g n) (block_joins f g n) v i) (from_below n v)
    where
      go : In (joins_below f g n) v ⊎ In (block_joins f g n) v → (In (joins_below f g n) v → (b : ℕ) × (b < n) × (nat_eq b l.entry ≡ false) × (s : ℕ) × In (here b) s × (slot_join f g b s ≡ v)) → (b : ℕ) × (b < suc n) × (nat_eq b l.entry ≡ false) × (s : ℕ) × In (here b) s × (slot_join f g b s ≡ v)
      go (inl j) rest = let r = rest j in (r.0, (let lt = r.1 in omega (arith, lt)), r.2, r.3, r.4, r.5)
      go (inr j) rest = let r = from_block n v j in (n, omega arith, r.0, r.1, r.2, r.3)

  in_below : (n b s : ℕ) → b < n → nat_eq b l.entry ≡ false → In (here b) s → In (joins_below f g n) (slot_join f g b s)
  in_below zero b s lt e i = absurd (let no : ⊥ = omega (arith, lt) in no)
  in_below (suc n) b s lt e i = go (compared b n) (λ q. in_below n b s q e i)
    where
      go : (b ≡ n) ⊎ (b ≡ n → ⊥) → (b < n → In (joins_below f g n) (slot_join f g b s)) → In (joins_below f g n ++ block_joins f g n) (slot_join f g b s)
      go (inl q) rest = in_right (joins_below f g n) (block_joins f g n) (slot_join f g b s) (subst (λ v. In (block_joins f g v) (slot_join f g b s)) q (in_block b s e i))
      go (inr differ) rest = in_left (joins_below f g n) (block_joins f g n) (slot_join f g b s) (rest (omega (arith, lt, differ)))

  block_at : (b : ℕ) → b < l.blocks → (x : Block) × (slice_get g b ≡ Some x)
  block_at b lt = some_at g b (subst (λ v. b < v) (sym sized) lt)

  distinct_block : (b : ℕ) → b < l.blocks → Differ (map join_name (block_joins f g b))
  distinct_block b lt = go (nat_eq b l.entry) refl
    where
      names : (ss : List ℕ) → map join_name (map (slot_join f g b) ss) ≡ map (phi_name f b) ss
      names [] = refl
      names (s ∷ ss) = ap (λ v. phi_name f b s ∷ v) (names ss)

      one : nat_eq b l.entry ≡ false → (s t : ℕ) → In (here b) s → In (here b) t → phi_name f b s ≡ phi_name f b t → s ≡ t
      one q s t i j e =
          let x = block_at b lt in
          let other = other_number b l.entry q in
          some_same (sym (num.of_phi b x.0 s x.1 (from_here b s i).0 other).0 ∙ ap (slice_get f.names.slots.items) e ∙ (num.of_phi b x.0 t x.1 (from_here b t j).0 other).0)

      go : (c : Bool) → nat_eq b l.entry ≡ c → Differ (map join_name (if c then [] else map (slot_join f g b) (here b)))
      go true q = tt
      go false q = subst (λ v. Differ v) (sym (names (here b))) (distinct_map (phi_name f b) (here b) (one q) (distinct_filter_plain (live b) (count_from 0 l.slots) (distinct_count 0 l.slots)))

  distinct_below : (n : ℕ) → n ≤ l.blocks → Differ (map join_name (joins_below f g n))
  distinct_below zero le = tt
  distinct_below (suc n) le = distinct_both join_name (joins_below f g n) (block_joins f g n) (distinct_below n (omega (arith, le))) (distinct_block n (omega (arith, le))) (λ v w i j e.
      let p = from_below n v i in
      let q = from_block n w j in
      let lt = p.1 in
      let x = block_at p.0 (omega (arith, lt, le)) in
      let y = block_at n (omega (arith, le)) in
      let same : p.0 ≡ n = num.phi_apart p.0 n x.0 y.0 p.3 q.1 x.1 y.1 (from_here p.0 p.3 p.4).0 (from_here n q.1 q.2).0 (other_number p.0 l.entry p.2) (other_number n l.entry q.0) (ap join_name p.5 ∙ e ∙ ap join_name (sym q.3)) in
      omega (arith, same, lt))

  -- ---- the joins of the form

  module _ (joins : List Join) (of : joins ≡ joins_below f g l.blocks) where
    pub from_joins : (i : ℕ) (j : Join) → slice_get joins i ≡ Some j → (b : ℕ) × (b < l.blocks) × (nat_eq b l.entry ≡ false) × (s : ℕ) × In (here b) s × (slot_join f g b s ≡ j)
    from_joins i j h = from_below l.blocks j (subst (λ v. In v j) of (in_place joins i j h))

    is_join : (b s : ℕ) (j : Join) → slot_join f g b s ≡ j → IsJoinOf (φ_of b s) j
    is_join b s j e = record { name = ap join_name e; operands = operands_of (λ p. after f g p s) (predecessors_of g b) ∙ ap (λ (v : Join). v.operands) e }

    block_here : (b : ℕ) → b < l.blocks → (x : Block) × (slice_get g b ≡ Some x) × (slice_get Z.blocks b ≡ Some (F b x))
    block_here b lt = let x = block_at b lt in (x.0, x.1, numbered_at F 0 b g x.0 x.1 ∙ ap (λ v. Some (F v x.0)) (let q : 0 + b ≡ b = omega arith in q))

    phi_in : (b s : ℕ) (x : Block) → nat_eq b l.entry ≡ false → In (here b) s → In (F b x).phis (φ_of b s)
    phi_in b s x e i = subst (λ c. In (full_phis l.slots l.entry g live (phi_name f) (set_name f) c b) (φ_of b s)) (sym e) (in_map (φ_of b) (here b) s i)

    phi : (i : ℕ) (j : Join) → slice_get joins i ≡ Some j → (b : ℕ) × (x : SsaBlock) × (φ : Phi) × (slice_get Z.blocks b ≡ Some x) × In x.phis φ × IsJoinOf φ j
    phi i j h = let r = from_joins i j h in let x = block_here r.0 r.1 in (r.0, F r.0 x.0, φ_of r.0 r.3, x.2, phi_in r.0 r.3 x.0 r.2 r.4, is_join r.0 r.3 j r.5)

    full_at : (b : ℕ) (y : SsaBlock) → slice_get Z.blocks b ≡ Some y → (x : Block) × (slice_get g b ≡ Some x) × (F b x ≡ y)
    full_at b y h = let r = at_numbered F 0 b g y h in (r.0, r.1, ap (λ v. F v r.0) (let q : b ≡ 0 + b = omega arith in q) ∙ r.2)

    join : (b : ℕ) (y : SsaBlock) (φ : Phi) → slice_get Z.blocks b ≡ Some y → In y.phis φ → (i : ℕ) × (j : Join) × (slice_get joins i ≡ Some j) × IsJoinOf φ j
    join b y φ h i =
        let x = full_at b y h in
        go x.0 x.1 (nat_eq b l.entry) refl (subst (λ (v : SsaBlock). In v.phis φ) (sym x.2) i)
      where
        go : (x : Block) → slice_get g b ≡ Some x → (c : Bool) → nat_eq b l.entry ≡ c → In (full_phis l.slots l.entry g live (phi_name f) (set_name f) c b) φ → (i : ℕ) × (j : Join) × (slice_get joins i ≡ Some j) × IsJoinOf φ j
        go x at true e i = absurd i
        go x at false e i =
            let r = from_map (φ_of b) (here b) φ i in
            let lt : b < l.blocks = subst (λ v. b < v) sized (slice_get_within g b x at) in
            let p = place_in joins (slot_join f g b r.0) (subst (λ v. In v (slot_join f g b r.0)) (sym of) (in_below l.blocks b r.0 lt e r.1)) in
            (p.0, slot_join f g b r.0, p.1, subst (λ ψ. IsJoinOf ψ (slot_join f g b r.0)) r.2 (is_join b r.0 (slot_join f g b r.0) refl))

    distinct : (a b : ℕ) (i j : Join) → slice_get joins a ≡ Some i → slice_get joins b ≡ Some j → i.name ≡ j.name → a ≡ b
    distinct a b i j p q e = same_place join_name joins a b i j (subst (λ v. Differ (map join_name v)) (sym of) (distinct_below l.blocks (omega arith))) p q e

    spare : (i : ℕ) (j : Join) → slice_get joins i ≡ Some j → slice_get Z.names j.spare ≡ slice_get Z.names j.name
    spare i j h =
        let r = from_joins i j h in
        let x = block_at r.0 r.1 in
        let here = from_here r.0 r.3 r.4 in
        ap (slice_get f.names.slots.items) (ap (λ (v : Join). v.spare) (sym r.5)) ∙ slot_named l live g f.names.slots.items f.names.phis.items f.names.sets.items form.names sized r.3 here.1
        ∙ sym (num.of_phi r.0 x.0 r.3 x.1 here.0 (other_number r.0 l.entry r.2)).0 ∙ ap (slice_get f.names.slots.items) (ap join_name r.5)

    spare_unset : (i : ℕ) (j : Join) (b : ℕ) (y : SsaBlock) → slice_get joins i ≡ Some j → slice_get Z.blocks b ≡ Some y → Sets y j.spare → ⊥
    spare_unset i j b y h at set =
        let r = from_joins i j h in
        let x = full_at b y at in
        let lt = (from_here r.0 r.3 r.4).1 in
        let e : r.3 ≡ j.spare = ap (λ (v : Join). v.spare) r.5 in
        let b_in : b < l.blocks = subst (λ v. b < v) sized (slice_get_within g b x.0 x.1) in
        elim (from_sets l.slots l.params l.entry g live (phi_name f) (set_name f) f.names.slots.items closed num b x.0 j.spare x.1 (subst (λ (v : SsaBlock). Sets v j.spare) (sym x.2) set)) [
          | inl p ↦ let q = p.3 in let high = phi_high l live g f.names.slots.items f.names.phis.items f.names.sets.items form.names sized b p.1 b_in (closed.bounded b p.1 p.2) in omega (arith, q, high, lt, e)
          | inr p ↦ let q = p.2 in let high = set_high l live g f.names.slots.items f.names.phis.items f.names.sets.items form.names sized b b_in in omega (arith, q, high, lt, e)
        ]

    joins_of : JoinsOf Z joins
    joins_of = record { phi = phi; join = join; distinct = distinct; spare = spare; spare_unset = spare_unset }

    pub formed : WellFormed f.names.slots.items joins
    formed = well_formed l.slots l.params l.entry g Z named joins joins_of

    pub builds : (into numbers names : List ℕ) → Merged f.names.slots.items joins into → Numbers f.names.slots.items into numbers names → IsNamed l.slots l.params l.entry g (built_form f g into numbers names) × HasNoTrivial (built_form f g into numbers names)
    builds into numbers names merged numbered =
        let m = merges l.slots l.params l.entry g Z named joins joins_of into merged in
        reduces l.slots l.params l.entry g Z named joins joins_of into merged names (λ k. get_or numbers k 0) (renumbers l.slots l.params l.entry g Z into numbers names named m merged.sized numbered)
