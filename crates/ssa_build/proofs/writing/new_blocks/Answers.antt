use Rattle.std.proofs.Common.{◌+◌, ℕ, sym, ap, subst, ◌∙◌}
use Rattle.ssa_build.specs.Forms.{SsaBlock}
use Rattle.ssa_build.specs.Writing.{AreNewBlocks, IsNewBlock}
use Rattle.ssa_build.proofs.Placing.{each_more, length_more}
use Rattle.ssa_build.proofs.writing.new_blocks.Goals as goal

pub loop-block-preserved : goal.loop-block-preserved
loop-block-preserved c =
    let f = c.args.renaming.now.full.now in
    let g = c.args.renaming.now.blocks.now in
    let into = c.args.renaming.now.into.now in
    let numbers = c.args.renaming.now.numbers.now in
    let n = c.loop-block.block in
    let ys = c.loop-block.written in
    let y = c.in_ok-new_block.field-0 in
    let P : ℕ → SsaBlock → Type 0 = λ b w. IsNewBlock f g into numbers b w in
    subst (λ zs. AreNewBlocks f g into numbers (n + 1) zs) (sym c.in_ok-push.ensures.ok)
    (length_more ys y ∙ ap (λ v. v + 1) c.loop-block.invariant.0, each_more P ys y n c.loop-block.invariant.0 c.loop-block.invariant.1 c.in_ok-new_block.ensures)
