use Rattle.block_graph.specs.Predecessors.{ArePredecessors}
use Rattle.block_graph.proofs.edges.predecessors.Given as goal

abbrev pub invariant-loop-block : goal.invariant-loop-block
invariant-loop-block l = ArePredecessors l.blocks l.block l.lists.items
