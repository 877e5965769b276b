use Rattle.std.proofs.Common.{◌≡◌, map}
use Rattle.std.specs.List.{filter}
use Rattle.ssa_build.specs.FullForms.{live_in}
use Rattle.block_graph.specs.Ranges.{count_from}
use Rattle.ssa_build.specs.Renamings as renamed
use Rattle.ssa_build.proofs.output.new_map.Given as goal

abbrev pub invariant-loop-slot : goal.invariant-loop-slot
invariant-loop-slot l = l.names ≡ map (λ s. (s, renamed.before l.renaming l.block s)) (filter (live_in l.renaming.full.now l.block) (count_from 0 l.slot))
