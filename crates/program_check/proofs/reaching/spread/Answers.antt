use Rattle.program_check.proofs.Marking.{fewer, spread_begins, spread_more}
use Rattle.program_check.proofs.reaching.spread.Goals as goal

pub loop-g-init : goal.loop-g-init
loop-g-init c = spread_begins c.args.table.now c.args.marks.now

pub loop-g-preserved : goal.loop-g-preserved
loop-g-preserved c = spread_more c.args.table.now c.args.marks.now c.loop-g.marks c.loop-g.invariant c.in-Some.g c.in-Some.ensures c.mark.new.marks c.mark.ensures

pub loop-g-smaller : goal.loop-g-smaller
loop-g-smaller c = fewer c.args.table.now c.args.marks.now c.loop-g.marks c.loop-g.invariant c.in-Some.g c.in-Some.ensures c.mark.new.marks c.mark.ensures
