use Rattle.std.proofs.Common.{◌≡◌, ◌++◌, map}
use Rattle.std.specs.List.{filter}
use Rattle.ssa_build.specs.FullForms.{live_in}
use Rattle.ssa_build.specs.FullJoins.{place}
use Rattle.block_graph.specs.Ranges.{count_from}
use Rattle.ssa_build.proofs.phis.push_block_places.Given as goal

abbrev pub invariant-loop-slot : goal.invariant-loop-slot
invariant-loop-slot l = l.places.items ≡ l.initial.places.items ++ map (place l.block) (filter (live_in l.full l.block) (count_from 0 l.slot))
