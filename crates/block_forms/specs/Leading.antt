-- Where the ends of blocks lead.
use Rattle.std.specs.Prelude.{ℕ, ◌<◌}
use Rattle.block_forms.specs.Forms.{AtTargets, Block}

-- the block leads to one of so many blocks
pub record LeadsWithin (blocks : ℕ) (x : Block) : Type 0 where
  pub targets : AtTargets (λ c. c < blocks) x.end
