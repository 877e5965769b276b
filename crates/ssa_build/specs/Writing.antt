-- The blocks that are written, by place.
use Rattle.std.specs.Prelude.{◌≡◌, ℕ, List, length, slice_get, Some}
use Rattle.ssa_build.specs.declared.full.FullForm.{FullForm}
use Rattle.ssa_build.specs.Forms.{Block, SsaBlock}
use Rattle.ssa_build.specs.Output.{new_block}

abbrev pub IsNewBlock : FullForm → List Block → List ℕ → List ℕ → ℕ → SsaBlock → Type 0
IsNewBlock f g into numbers b y = (x : Block) → slice_get g b ≡ Some x → y ≡ new_block f g into numbers b x

-- the first n blocks
abbrev pub AreNewBlocks : FullForm → List Block → List ℕ → List ℕ → ℕ → List SsaBlock → Type 0
AreNewBlocks f g into numbers n ys = (length ys ≡ n) × ((b : ℕ) (y : SsaBlock) → slice_get ys b ≡ Some y → IsNewBlock f g into numbers b y)
