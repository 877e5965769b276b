use Rattle.away_top.proofs.Counting.{count_end, count_next}
use Rattle.away_top.proofs.explain.count_lines_of.Goals as goal

pub loop-what-preserved : goal.loop-what-preserved
loop-what-preserved c =
    rw c.in_ok-put_count.ensures (count_next c.loop-what.output.items c.args.counts.now c.loop-what.what-index _ _ c.loop-what-test.true c.loop-what.invariant)

pub returns : goal.returns
returns c = count_end c.loop-what.output.items c.args.counts.now c.loop-what.what-index _ c.loop-what-test.false c.loop-what.invariant
