use Rattle.std.proofs.Common.{◌≡◌, ◌&&◌, map}
use Rattle.std.specs.List.{filter}
use Rattle.ssa_build.specs.FullForms.{live_in, phi_name}
use Rattle.block_graph.specs.Ranges.{count_from}
use Rattle.ssa_build.specs.Merging.{is_end, replacing}
use Rattle.ssa_build.specs.Output.{new_phi}
use Rattle.ssa_build.proofs.output.new_phis.Given as goal

abbrev pub invariant-loop-slot : goal.invariant-loop-slot
invariant-loop-slot l = l.phis ≡ map (new_phi l.renaming.full.now l.renaming.blocks.now l.renaming.into.now l.renaming.numbers.now l.block) (filter (λ s. live_in l.renaming.full.now l.block s && is_end (replacing l.renaming.into.now) (phi_name l.renaming.full.now l.block s)) (count_from 0 l.slot))
