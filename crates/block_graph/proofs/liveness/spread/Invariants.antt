use Rattle.std.proofs.Common.{◌+◌, length}
use Rattle.block_graph.specs.Liveness.{unmarked}
use Rattle.block_graph.specs.Spreading.{Work}
use Rattle.block_graph.proofs.liveness.spread.Given as goal

abbrev pub invariant-loop-block : goal.invariant-loop-block
invariant-loop-block l = Work l.blocks l.slot l.table l.left

abbrev pub decreases-loop-block : goal.decreases-loop-block
decreases-loop-block l = unmarked l.table + length l.left
