-- The blocks that lead to a block, in order.
use Rattle.std.specs.Prelude.{
  ◌≡◌,
  ℕ,
  ◌<◌,
  if◌then◌else◌,
  List,
  [],
  ◌∷◌,
  ◌++◌,
  length,
  get_or,
  slice_get,
}
use Rattle.std.specs.List.{filter}
use Rattle.block_forms.specs.declared.forms.Block.{Block}
use Rattle.block_forms.specs.declared.forms.End.{End}
use Rattle.block_forms.specs.Lowered.{end_leads}
use Rattle.block_forms.specs.Named.{leads}
use Rattle.block_graph.specs.Ranges.{count_from}

-- of the first n blocks
abbrev pub predecessors_below : List Block → ℕ → ℕ → List ℕ
predecessors_below g n c = filter (λ b. leads (slice_get g b) c) (count_from 0 n)

abbrev pub predecessors_of : List Block → ℕ → List ℕ
predecessors_of g c = predecessors_below g (length g) c

-- the lists have the predecessors among the first n blocks
pub record ArePredecessors (g : List Block) (n : ℕ) (lists : List (List ℕ)) : Type 0 where
  pub long : length lists ≡ length g
  pub each : (c : ℕ) → c < length g → get_or lists c [] ≡ predecessors_below g n c

-- the block b is added where its end leads
pub record AddsTargets (e : End) (b : ℕ) (old new : List (List ℕ)) : Type 0 where
  pub long : length new ≡ length old
  pub each : (c : ℕ) → c < length old → get_or new c [] ≡ (if end_leads e c then get_or old c [] ++ b ∷ [] else get_or old c [])
