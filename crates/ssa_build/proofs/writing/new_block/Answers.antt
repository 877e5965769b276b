use Rattle.std.proofs.Common.{◌≡◌, get_or, sym, ap, ◌∙◌}
use Rattle.ssa_build.specs.Forms.{Block}
use Rattle.ssa_build.specs.Renamings as renamed
use Rattle.ssa_build.proofs.LoopLists.{held_at}
use Rattle.ssa_build.proofs.Placing.{same_block}
use Rattle.ssa_build.proofs.writing.new_block.Goals as goal

pub returns : goal.returns
returns c = λ x at.
    let r = c.args.renaming.now in
    let b = c.args.block in
    let held = c.index-renaming-block.result in
    let e : get_or r.blocks.now b held ≡ x = sym c.index-renaming-block.is ∙ held_at r.blocks.now b held x c.index-renaming-block.is at in
    same_block c.in_ok-map.ensures c.in_ok-phis.ensures
    (c.in_ok-set.ensures ∙ ap (λ (v : Block). renamed.set_of r b v.set) e)
    (c.in_ok-end.ensures ∙ ap (λ (v : Block). renamed.end_of r b v.end) e)
