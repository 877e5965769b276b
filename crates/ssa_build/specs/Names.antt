-- The names of the full form: one for each slot, then block by block one for each φ and one for the
-- assignment.
use Rattle.std.specs.Prelude.{
  ◌≡◌,
  ℕ,
  zero,
  suc,
  ◌+◌,
  ◌<◌,
  Bool,
  false,
  if◌then◌else◌,
  List,
  [],
  ◌∷◌,
  ◌++◌,
  map,
  length,
  get_or,
  slice_get,
  nat_eq,
  Option,
  Some,
  None,
}
use Rattle.std.specs.List.{filter}
use Rattle.ssa_build.specs.declared.layout.Layout.{Layout}
use Rattle.ssa_build.specs.Forms.{Block, Term}
use Rattle.block_graph.specs.Ranges.{count_from}

abbrev pub set_slots : Option (ℕ × Term) → List ℕ
set_slots None = []
set_slots (Some a) = a.0 ∷ []

abbrev pub assigned : Option Block → List ℕ
assigned None = []
assigned (Some x) = set_slots x.set

module _ (l : Layout) (live : ℕ → ℕ → Bool) where
  -- the entry has no φ
  abbrev pub has_phi : ℕ → ℕ → Bool
  has_phi b s = if nat_eq b l.entry then false else live b s

  -- the slots with a φ in the block, of the first s
  abbrev pub phi_slots : ℕ → ℕ → List ℕ
  phi_slots b s = filter (has_phi b) (count_from 0 s)

  -- the next names of the slots in the block, where so many names stand before it
  abbrev pub next_row : ℕ → ℕ → List ℕ
  next_row b before = map (λ s. before + length (phi_slots b s)) (count_from 0 l.slots)

  module _ (g : List Block) where
    -- the slots of the names of the first blocks
    abbrev pub names_below : ℕ → List ℕ
    names_below zero = count_from 0 l.slots
    names_below (suc b) = names_below b ++ (phi_slots b l.slots ++ assigned (slice_get g b))

    -- the name that the slot's φ in the block has, if there is one
    abbrev pub next_name : ℕ → ℕ → ℕ
    next_name b s = length (names_below b) + length (phi_slots b s)

    -- the names of the first n blocks: their slots, for each block those of its φs by slots, and
    -- that of its assignment
    pub record NamesBelow (n : ℕ) (slots : List ℕ) (phis : List (List ℕ)) (sets : List ℕ) : Type 0 where
      pub slots_are : slots ≡ names_below n
      pub phis_long : length phis ≡ n
      pub phis_are : (b : ℕ) → b < n → get_or phis b [] ≡ next_row b (length (names_below b))
      pub sets_long : length sets ≡ n
      pub sets_are : (b : ℕ) → b < n → get_or sets b 0 ≡ next_name b l.slots
