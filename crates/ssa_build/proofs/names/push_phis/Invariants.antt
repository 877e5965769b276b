use Rattle.std.proofs.Common.{◌≡◌, ◌+◌, ◌++◌, length, map}
use Rattle.block_graph.specs.Ranges.{count_from}
use Rattle.ssa_build.specs.Names.{phi_slots}
use Rattle.block_graph.specs.Tables.{live_by}
use Rattle.ssa_build.proofs.names.push_phis.Given as goal

abbrev pub invariant-loop-slot : goal.invariant-loop-slot
invariant-loop-slot l =
    (l.names.items ≡ l.initial.names.items ++ phi_slots l.layout (live_by l.live) l.block l.slot) × (l.row ≡ map (λ s. length l.initial.names.items + length (phi_slots l.layout (live_by l.live) l.block s)) (count_from 0 l.slot))
