-- Joins that are held by their places.
use Rattle.std.specs.Prelude.{◌≡◌, ℕ, ◌<◌, List, length, slice_get, Some}
use Rattle.ssa_build.specs.declared.layout.Layout.{Layout}
use Rattle.ssa_build.specs.declared.places.Joins.{Joins}
use Rattle.ssa_build.specs.declared.places.PhiPlace.{PhiPlace}
use Rattle.ssa_build.specs.FullForms.{IsSized}
use Rattle.ssa_build.specs.FullJoins.{joins_at}
use Rattle.ssa_build.specs.Joins.{Join, WellFormed}
use Rattle.block_graph.specs.Predecessors.{ArePredecessors}

abbrev pub IsPlace : Layout → PhiPlace → Type 0
IsPlace l p = (p.block < l.blocks) × (p.slot < l.slots)

-- the slots of the names
abbrev pub names_of : Joins → List ℕ
names_of x = x.full.now.names.slots.items

abbrev pub joins_of : Joins → List Join
joins_of x = joins_at x.full.now x.blocks.now x.places.now

pub record AreJoins (x : Joins) : Type 0 where
  pub tables : IsSized x.full.now
  pub sized : length x.blocks.now ≡ x.full.now.layout.blocks
  pub sources : ArePredecessors x.blocks.now (length x.blocks.now) x.full.now.sources.items
  pub places : (i : ℕ) (p : PhiPlace) → slice_get x.places.now i ≡ Some p → IsPlace x.full.now.layout p
  pub formed : WellFormed (names_of x) (joins_of x)
