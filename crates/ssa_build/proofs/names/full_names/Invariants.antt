use Rattle.ssa_build.specs.Names.{NamesBelow}
use Rattle.block_graph.specs.Tables.{live_by}
use Rattle.ssa_build.proofs.names.full_names.Given as goal

abbrev pub invariant-loop-block : goal.invariant-loop-block
invariant-loop-block l = NamesBelow l.layout (live_by l.live) l.blocks l.block l.slots.items l.phis.items l.sets.items
