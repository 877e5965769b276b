use Rattle.std.proofs.Common.{◌≡◌, ◌++◌}
use Rattle.block_graph.specs.Ranges.{count_from}
use Rattle.ssa_build.proofs.names.push_slots.Given as goal

abbrev pub invariant-loop-slot : goal.invariant-loop-slot
invariant-loop-slot l = l.names.items ≡ l.initial.names.items ++ count_from 0 l.slot
