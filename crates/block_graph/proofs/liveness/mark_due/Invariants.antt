use Rattle.std.proofs.Common.{take}
use Rattle.block_graph.specs.Spreading.{Spread}
use Rattle.block_graph.proofs.liveness.mark_due.Given as goal

abbrev pub invariant-loop-block : goal.invariant-loop-block
invariant-loop-block l = Spread l.blocks l.slot l.initial.table l.initial.left (take l.block-index l.among) l.table l.left
