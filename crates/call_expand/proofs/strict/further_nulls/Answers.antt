use Rattle.call_expand.proofs.StrictRules.{null_step}
use Rattle.call_expand.proofs.strict.further_nulls.Goals as goal

pub loop-i-preserved : goal.loop-i-preserved
loop-i-preserved c = (
  c.in_ok-at.ensures,
  null_step c.args.names.now c.args.n c.loop-i.i c.args.k c.loop-i.at c.in_ok-at.at c.push.new.self c.loop-i.all _ c.in_ok-is_null.field-0 c.loop-i-test.true c.loop-i.invariant.0
      c.in_ok-at.ensures c.in_ok-is_null.ensures c.in_ok-push.ensures.ok c.loop-i.invariant.1,
)
