use Rattle.std.proofs.Common.{arith}
use Rattle.ssa_check.proofs.Places.{places_here}
use Rattle.ssa_check.proofs.names.places_that_set.Goals as goal

pub overflow_add-count : goal.overflow_add-count
overflow_add-count c = omega (arith, c.places_in_block-count.ensures, c.loop-block.invariant.few)

pub loop-block-preserved : goal.loop-block-preserved
loop-block-preserved c = record {
  few = c.if-count-ge2.false;
  so_far = omega (arith, c.places_in_block-count.ensures, c.loop-block.invariant.so_far, c.if-count-ge2.false, places_here c.args.blocks.now c.loop-block.block-index c.args.name c.block-item.result c.loop-block-test.true c.block-item.is);
}
