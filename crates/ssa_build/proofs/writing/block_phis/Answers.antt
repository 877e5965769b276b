use Rattle.std.proofs.Common.{◌<◌, length, sym, subst}
use Rattle.ssa_build.proofs.LoopLists.{sources_held, sources_within}
use Rattle.ssa_build.proofs.writing.block_phis.Goals as goal

pub new_phis-requires-clause-sources_are : goal.new_phis-requires-clause-sources_are
new_phis-requires-clause-sources_are c =
    let g = c.args.renaming.now.blocks.now in
    let b = c.args.block in
    let lt : b < length g = subst (λ v. b < v) (sym c.requires.sized) c.requires.block_in in
    sources_held g c.args.renaming.now.full.now.sources.items b c.index.result.now c.as_slice-sources.result.now c.requires.sources lt c.index.ensures c.as_slice-sources.ensures

pub new_phis-requires-clause-sources_in : goal.new_phis-requires-clause-sources_in
new_phis-requires-clause-sources_in c =
    let g = c.args.renaming.now.blocks.now in
    let b = c.args.block in
    let lt : b < length g = subst (λ v. b < v) (sym c.requires.sized) c.requires.block_in in
    sources_within g b c.args.renaming.now.full.now.layout.blocks c.as_slice-sources.result.now (sources_held g c.args.renaming.now.full.now.sources.items b c.index.result.now c.as_slice-sources.result.now c.requires.sources lt c.index.ensures c.as_slice-sources.ensures) c.requires.sized
