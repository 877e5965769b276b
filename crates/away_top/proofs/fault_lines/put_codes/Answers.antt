use Rattle.away_top.proofs.FaultLines.{code_end, code_next}
use Rattle.away_top.proofs.fault_lines.put_codes.Goals as goal

pub loop-class-preserved : goal.loop-class-preserved
loop-class-preserved c =
    rw c.in_ok-put_code.ensures (code_next c.loop-class.output.items c.args.classes.now c.loop-class.class-index _ _ c.loop-class-test.true c.loop-class.invariant)

pub returns : goal.returns
returns c = code_end c.loop-class.output.items c.args.classes.now c.loop-class.class-index _ c.loop-class-test.false c.loop-class.invariant
