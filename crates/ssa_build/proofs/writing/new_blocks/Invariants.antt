use Rattle.ssa_build.specs.Writing.{AreNewBlocks}
use Rattle.ssa_build.proofs.writing.new_blocks.Given as goal

abbrev pub invariant-loop-block : goal.invariant-loop-block
invariant-loop-block l = AreNewBlocks l.renaming.full.now l.renaming.blocks.now l.renaming.into.now l.renaming.numbers.now l.block l.written
