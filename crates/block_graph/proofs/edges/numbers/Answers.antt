use Rattle.std.proofs.Common.{◌+◌, sym, subst}
use Rattle.block_graph.specs.Spreading.{HasAll}
use Rattle.block_graph.proofs.Spreading.{all_more}
use Rattle.block_graph.proofs.edges.numbers.Goals as goal

pub loop-block-preserved : goal.loop-block-preserved
loop-block-preserved c = subst (HasAll (c.loop-block.block + 1)) (sym c.in_ok-push.ensures.ok) (all_more c.loop-block.block c.loop-block.all c.loop-block.invariant)
