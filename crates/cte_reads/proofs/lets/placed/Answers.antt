use Rattle.cte_reads.proofs.PlacedInOrder.{placed_on, placed_ends}
use Rattle.cte_reads.proofs.lets.placed.Goals as goal

pub loop-i-preserved : goal.loop-i-preserved
loop-i-preserved c =
    placed_on c.args.out c.args.slots.now c.args.refs.now c.args.of.now c.loop-i.i c.index-of-i.result c.loop-i-test.true c.index-of-i.is c.loop-i.invariant c.placed_event-at.ensures c.next_depth-depth.ensures

pub returns : goal.returns
returns c = placed_ends c.args.out c.args.slots.now c.args.refs.now c.args.of.now c.loop-i.i c.loop-i-test.false c.loop-i.invariant
