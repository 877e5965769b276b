use Rattle.inline_calls.proofs.Marking.{fewer, spread_begins, spread_more}
use Rattle.inline_calls.proofs.fails.spread.Goals as goal

pub loop-b-init : goal.loop-b-init
loop-b-init c = spread_begins c.args.blocks.now c.args.marks.now

pub loop-b-smaller : goal.loop-b-smaller
loop-b-smaller c = fewer c.args.blocks.now c.args.marks.now c.loop-b.marks c.loop-b.invariant c.in-Some.b c.in-Some.ensures.some c.mark.new.marks c.mark.ensures

pub loop-b-preserved : goal.loop-b-preserved
loop-b-preserved c = spread_more c.args.blocks.now c.args.marks.now c.loop-b.marks c.loop-b.invariant c.in-Some.b c.in-Some.ensures.some c.mark.new.marks c.mark.ensures
