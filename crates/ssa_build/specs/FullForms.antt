-- The full form as tables: where slots are live, the names, and the sources of blocks.
use Rattle.std.specs.Prelude.{
  ◌≡◌,
  ℕ,
  ◌^◌,
  ◌<◌,
  Bool,
  false,
  if◌then◌else◌,
  List,
  [],
  length,
  get_or,
  nat_eq,
}
use Rattle.ssa_build.specs.declared.full.FullForm.{FullForm}
use Rattle.ssa_build.specs.Forms.{Block}
use Rattle.ssa_build.specs.Layout.{IsLayout}
use Rattle.ssa_build.specs.Maximal.{name_after}
use Rattle.ssa_build.specs.Names.{NamesBelow}
use Rattle.block_graph.specs.Predecessors.{ArePredecessors}
use Rattle.block_graph.specs.Tables.{AreLiveTables, live_by}

abbrev pub phi_name : FullForm → ℕ → ℕ → ℕ
phi_name f b s = get_or (get_or f.names.phis.items b []) s 0

abbrev pub set_name : FullForm → ℕ → ℕ
set_name f b = get_or f.names.sets.items b 0

abbrev pub live_in : FullForm → ℕ → ℕ → Bool
live_in f = live_by f.live.items

abbrev pub no_table : ℕ → ℕ → Bool
no_table b s = false

-- the name of a slot where the block begins
abbrev pub before : FullForm → ℕ → ℕ → ℕ
before f b s = if nat_eq b f.layout.entry then s else phi_name f b s

-- the name of a slot where the block ends
abbrev pub after : FullForm → List Block → ℕ → ℕ → ℕ
after f g b s = name_after f.layout.slots f.layout.entry g no_table (phi_name f) (set_name f) b s

-- each table is as long as what it tells of
pub record IsSized (f : FullForm) : Type 0 where
  pub few_blocks : f.layout.blocks < 2 ^ 32
  pub few_slots : f.layout.slots < 2 ^ 32
  pub live : length f.live.items ≡ f.layout.slots
  pub phis : length f.names.phis.items ≡ f.layout.blocks
  pub rows : (b : ℕ) → b < f.layout.blocks → length (get_or f.names.phis.items b []) ≡ f.layout.slots
  pub sets : length f.names.sets.items ≡ f.layout.blocks

pub record IsFullForm (g : List Block) (f : FullForm) : Type 0 where
  pub is_layout : IsLayout f.layout
  pub sized : length g ≡ f.layout.blocks
  pub tables : IsSized f
  pub live : AreLiveTables g f.live.items
  pub names : NamesBelow f.layout (live_in f) g f.layout.blocks f.names.slots.items f.names.phis.items f.names.sets.items
  pub sources : ArePredecessors g (length g) f.sources.items
