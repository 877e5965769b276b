use Rattle.std.proofs.Common.{◌≡◌, ℕ, length, slice_get, Some}
use Rattle.block_forms.specs.declared.forms.Block.{Block}
use Rattle.block_forms.specs.declared.forms.SsaBlock.{SsaBlock}
use Rattle.call_forms.specs.declared.forms.AnfBlock.{AnfBlock}
use Rattle.anf_build.specs.Passing.{IsBlockOf}
use Rattle.anf_build.proofs.build.all_blocks.Given as goal

abbrev pub invariant-loop-at : goal.invariant-loop-at
invariant-loop-at l = (length l.made ≡ l.at) × ((b : ℕ) (w : AnfBlock) → slice_get l.made b ≡ Some w → (x : Block) (y : SsaBlock) → slice_get l.from b ≡ Some x → slice_get l.blocks b ≡ Some y → IsBlockOf l.tables l.blocks b x y w)
