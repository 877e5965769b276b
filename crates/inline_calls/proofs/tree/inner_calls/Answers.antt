use Rattle.inline_law.specs.Written.{inner_calls}
use Rattle.inline_calls.proofs.TreeRules.{inner_more}
use Rattle.inline_calls.proofs.tree.inner_calls.Goals as goal

pub loop-es-preserved : goal.loop-es-preserved
loop-es-preserved c =
    let calls = c.args.calls.now in
    inner_more calls c.loop-es.es-index c.es-item.result c.as_slice.result.now c.in_ok-moved_all.field-0 c.loop-es.all c.push.new.self (inner_calls calls)
    c.loop-es-test.true c.es-item.is c.as_slice.ensures c.in_ok-moved_all.ensures c.in_ok-push.ensures.ok c.loop-es.invariant
