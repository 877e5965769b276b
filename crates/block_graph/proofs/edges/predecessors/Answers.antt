use Rattle.std.proofs.Common.{get_or}
use Rattle.std.proofs.lemmas.Option.{slice_get-get_or}
use Rattle.block_graph.proofs.Leading.{one_more}
use Rattle.block_graph.proofs.edges.predecessors.Goals as goal

pub loop-block-preserved : goal.loop-block-preserved
loop-block-preserved c =
    let g = c.args.blocks.now in
    let n = c.loop-block.block in
    let x = get_or g n c.index-blocks-block.result in
    one_more g n x c.loop-block.lists.items c.add_targets.new.lists.items c.loop-block.invariant (slice_get-get_or g n c.index-blocks-block.result c.loop-block-test.true) c.in_ok-add_targets.ensures
