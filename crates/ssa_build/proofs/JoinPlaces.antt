-- Joins by their places.
use Rattle.std.proofs.Common.{◌≡◌, ℕ, zero, suc, ◌<◌, ◌≤◌, Bool, true, false, if◌then◌else◌, List, [], ◌∷◌, ◌++◌, map, length, get_or, slice_get, nat_eq, Some, refl, sym, ap, ◌∙◌, subst, inl, inr, arith}
use Rattle.std.proofs.lemmas.Option.{slice_get-get_or, slice_get_within}
use Rattle.std.specs.List.{filter}
use Rattle.block_forms.specs.Places.{In}
use Rattle.ssa_build.specs.declared.full.FullForm.{FullForm}
use Rattle.ssa_build.specs.declared.places.Joins.{Joins}
use Rattle.ssa_build.specs.declared.places.PhiPlace.{PhiPlace}
use Rattle.ssa_build.specs.Forms.{Block}
use Rattle.ssa_build.specs.FullForms.{IsFullForm, after, live_in}
use Rattle.ssa_build.specs.FullJoins.{block_joins, block_places, join_at, joins_at, joins_below, place, places_below, slot_join}
use Rattle.ssa_build.specs.JoinPlaces.{AreJoins, IsPlace, joins_of, names_of}
use Rattle.ssa_build.specs.Joins.{Join, WellFormed}
use Rattle.block_graph.specs.Ranges.{count_from}
use Rattle.block_graph.specs.Predecessors.{predecessors_of}
use Rattle.block_graph.proofs.Ranges.{from_count}
use Rattle.ssa_build.proofs.LoopLists.{sources_held, sources_within}
use Rattle.block_graph.proofs.Lists.{at_map, from_both, from_filter, from_map, in_place}

map_both : {X Y : Type 0} (f : X → Y) (xs ys : List X) → map f (xs ++ ys) ≡ map f xs ++ map f ys
map_both f [] ys = refl
map_both f (x ∷ xs) ys = ap (λ l. f x ∷ l) (map_both f xs ys)

-- ---- the joins at the places of the full form are its joins

module _ (f : FullForm) (g : List Block) where
  at_slots : (b : ℕ) (ss : List ℕ) → joins_at f g (map (place b) ss) ≡ map (slot_join f g b) ss
  at_slots b [] = refl
  at_slots b (s ∷ ss) = ap (λ l. slot_join f g b s ∷ l) (at_slots b ss)

  at_block : (b : ℕ) → joins_at f g (block_places f b) ≡ block_joins f g b
  at_block b = go (nat_eq b f.layout.entry)
    where
      here : List ℕ
      here = filter (live_in f b) (count_from 0 f.layout.slots)

      go : (c : Bool) → joins_at f g (if c then [] else map (place b) here) ≡ (if c then [] else map (slot_join f g b) here)
      go true = refl
      go false = at_slots b here

  pub joins_at_places : (n : ℕ) → joins_at f g (places_below f n) ≡ joins_below f g n
  joins_at_places zero = refl
  joins_at_places (suc n) = map_both (join_at f g) (places_below f n) (block_places f n) ∙ ap (λ l. l ++ joins_at f g (block_places f n)) (joins_at_places n) ∙ ap (λ l. joins_below f g n ++ l) (at_block n)

-- ---- each place is one of the full form

module _ (f : FullForm) where
  slot_place : (b : ℕ) (p : PhiPlace) → b < f.layout.blocks → In (block_places f b) p → IsPlace f.layout p
  slot_place b p lt i = go (nat_eq b f.layout.entry) i
    where
      here : List ℕ
      here = filter (live_in f b) (count_from 0 f.layout.slots)

      go : (c : Bool) → In (if c then [] else map (place b) here) p → IsPlace f.layout p
      go true i = absurd i
      go false i =
          let r = from_map (place b) here p i in
          let s = from_count 0 f.layout.slots r.0 (from_filter (live_in f b) (count_from 0 f.layout.slots) r.0 r.1).0 in
          subst (λ v. IsPlace f.layout v) r.2 (lt, (let h = s.1 in omega (arith, h)))

  in_places : (n : ℕ) (p : PhiPlace) → n ≤ f.layout.blocks → In (places_below f n) p → IsPlace f.layout p
  in_places zero p le i = absurd i
  in_places (suc n) p le i = elim (from_both (places_below f n) (block_places f n) p i) [
    | inl j ↦ in_places n p (omega (arith, le)) j
    | inr j ↦ slot_place n p (omega (arith, le)) j
  ]

  pub places_in : (i : ℕ) (p : PhiPlace) → slice_get (places_below f f.layout.blocks) i ≡ Some p → IsPlace f.layout p
  places_in i p at = in_places f.layout.blocks p (omega arith) (in_place (places_below f f.layout.blocks) i p at)

-- ---- by place

pub get_or_map : (h : ℕ → ℕ) (xs : List ℕ) (k : ℕ) → k < length xs → get_or (map h xs) k 0 ≡ h (get_or xs k 0)
get_or_map h [] k lt = absurd (let no : ⊥ = omega arith in no)
get_or_map h (x ∷ xs) zero lt = refl
get_or_map h (x ∷ xs) (suc k) lt = get_or_map h xs k (omega arith)

pub length_map : {X Y : Type 0} (h : X → Y) (xs : List X) → length (map h xs) ≡ length xs
length_map h [] = refl
length_map h (x ∷ xs) = ap suc (length_map h xs)

abbrev pub place_of : Joins → ℕ → PhiPlace
place_of x i = get_or x.places.now i (place 0 0)

abbrev pub join_of : Joins → ℕ → Join
join_of x i = join_at x.full.now x.blocks.now (place_of x i)

module _ (x : Joins) (i : ℕ) (lt : i < length x.places.now) where
  here : slice_get x.places.now i ≡ Some (place_of x i)
  here = slice_get-get_or x.places.now i (place 0 0) lt

  pub join_here : slice_get (joins_of x) i ≡ Some (join_of x i)
  join_here = at_map (join_at x.full.now x.blocks.now) x.places.now i (place_of x i) here

  pub place_here : AreJoins x → IsPlace x.full.now.layout (place_of x i)
  place_here are = are.places i (place_of x i) here

-- a join has a place
pub within_places : (x : Joins) (i : ℕ) (j : Join) → slice_get (joins_of x) i ≡ Some j → i < length x.places.now
within_places x i j at = let lt : i < length (joins_of x) = slice_get_within (joins_of x) i j at in subst (λ v. i < v) (length_map (join_at x.full.now x.blocks.now) x.places.now) lt

-- ---- the operands of a join, by the blocks that they come from

module _ (x : Joins) (are : AreJoins x) (p : PhiPlace) (place_in : IsPlace x.full.now.layout p) (r sources : List ℕ) (is : r ≡ get_or x.full.now.sources.items p.block r) (same : sources ≡ r) where
  held : sources ≡ predecessors_of x.blocks.now p.block
  held = sources_held x.blocks.now x.full.now.sources.items p.block r sources are.sources (subst (λ v. p.block < v) (sym are.sized) place_in.0) is same

  pub source_in : (k : ℕ) → k < length sources → get_or sources k 0 < x.full.now.layout.blocks
  source_in = sources_within x.blocks.now p.block x.full.now.layout.blocks sources held are.sized

  pub operand_from : (k : ℕ) → k < length sources → get_or (join_at x.full.now x.blocks.now p).operands k 0 ≡ after x.full.now x.blocks.now (get_or sources k 0) p.slot
  operand_from k lt =
      ap (λ v. get_or (map (λ b. after x.full.now x.blocks.now b p.slot) v) k 0) (sym held) ∙ get_or_map (λ b. after x.full.now x.blocks.now b p.slot) sources k lt

  pub as_many : length (join_at x.full.now x.blocks.now p).operands ≡ length sources
  as_many = length_map (λ b. after x.full.now x.blocks.now b p.slot) (predecessors_of x.blocks.now p.block) ∙ ap length (sym held)

-- ---- the places of the full form

pub joins_are : (x : Joins) → x.places.now ≡ places_below x.full.now x.full.now.layout.blocks → joins_of x ≡ joins_below x.full.now x.blocks.now x.full.now.layout.blocks
joins_are x e = ap (joins_at x.full.now x.blocks.now) e ∙ joins_at_places x.full.now x.blocks.now x.full.now.layout.blocks

pub are_joins : (x : Joins) → IsFullForm x.blocks.now x.full.now → x.places.now ≡ places_below x.full.now x.full.now.layout.blocks → WellFormed (names_of x) (joins_below x.full.now x.blocks.now x.full.now.layout.blocks) → AreJoins x
are_joins x form e formed = record {
  tables = form.tables;
  sized = form.sized;
  sources = form.sources;
  places = λ i p at. places_in x.full.now i p (subst (λ v. slice_get v i ≡ Some p) e at);
  formed = subst (λ v. WellFormed (names_of x) v) (sym (joins_are x e)) formed;
}
