-- The joins of the full form as a list, block by block, and the places where they stand.
use Rattle.std.specs.Prelude.{ℕ, zero, suc, if◌then◌else◌, List, [], ◌++◌, map, nat_eq}
use Rattle.std.specs.List.{filter}
use Rattle.ssa_build.specs.declared.full.FullForm.{FullForm}
use Rattle.ssa_build.specs.declared.places.PhiPlace.{PhiPlace}
use Rattle.ssa_build.specs.Forms.{Block}
use Rattle.ssa_build.specs.FullForms.{after, live_in, phi_name}
use Rattle.ssa_build.specs.Joins.{Join}
use Rattle.block_graph.specs.Ranges.{count_from}
use Rattle.block_graph.specs.Predecessors.{predecessors_of}

abbrev pub join : ℕ → ℕ → List ℕ → Join
join n s os = record { name = n; spare = s; operands = os }

-- the spare name of a slot is its first
abbrev pub slot_join : FullForm → List Block → ℕ → ℕ → Join
slot_join f g b s = join (phi_name f b s) s (map (λ p. after f g p s) (predecessors_of g b))

abbrev pub block_joins : FullForm → List Block → ℕ → List Join
block_joins f g b = if nat_eq b f.layout.entry then [] else map (slot_join f g b) (filter (live_in f b) (count_from 0 f.layout.slots))

-- the joins of the first blocks
abbrev pub joins_below : FullForm → List Block → ℕ → List Join
joins_below f g zero = []
joins_below f g (suc b) = joins_below f g b ++ block_joins f g b

-- ---- their places

abbrev pub place : ℕ → ℕ → PhiPlace
place b s = record { block = b; slot = s }

abbrev pub block_places : FullForm → ℕ → List PhiPlace
block_places f b = if nat_eq b f.layout.entry then [] else map (place b) (filter (live_in f b) (count_from 0 f.layout.slots))

-- the places of the first blocks
abbrev pub places_below : FullForm → ℕ → List PhiPlace
places_below f zero = []
places_below f (suc b) = places_below f b ++ block_places f b

abbrev pub join_at : FullForm → List Block → PhiPlace → Join
join_at f g p = slot_join f g p.block p.slot

abbrev pub joins_at : FullForm → List Block → List PhiPlace → List Join
joins_at f g ps = map (join_at f g) ps
