use Rattle.std.proofs.Common.{◌≡◌, drop}
use Rattle.block_graph.specs.Liveness.{has}
use Rattle.block_graph.proofs.liveness.reads.Given as goal

abbrev pub invariant-loop-name : goal.invariant-loop-name
invariant-loop-name l = has (drop l.name-index l.name-items) l.slot ≡ has l.term.names l.slot
