use Rattle.block_graph.specs.Spreading.{HasAll}
use Rattle.block_graph.proofs.edges.numbers.Given as goal

abbrev pub invariant-loop-block : goal.invariant-loop-block
invariant-loop-block l = HasAll l.block l.all
