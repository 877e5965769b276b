use Rattle.call_expand.proofs.StrictRules.{move_step}
use Rattle.call_expand.proofs.turns.moves.Goals as goal

pub loop-t-preserved : goal.loop-t-preserved
loop-t-preserved c = (
  c.in_ok-to.ensures,
  c.in_ok-from.ensures,
  move_step c.args.names.now c.args.n c.loop-t.t c.args.i c.args.j c.loop-t.to c.loop-t.from c.in_ok-to.to c.in_ok-from.from c.push.new.self c.loop-t.all _ c.in_ok-name_at.field-0 c.in_ok-value.value
      c.loop-t-test.true c.loop-t.invariant.0 c.loop-t.invariant.1 c.in_ok-to.ensures c.in_ok-from.ensures c.in_ok-name_at.ensures c.in_ok-value.ensures c.in_ok-push.ensures.ok c.loop-t.invariant.2,
)
