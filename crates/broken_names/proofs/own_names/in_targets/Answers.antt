use Rattle.broken_names.proofs.OwnSteps.{some_so, target_at}
use Rattle.broken_names.proofs.own_names.in_targets.Goals as goal

pub returns-then-is_some : goal.returns-then-is_some
returns-then-is_some c =
    some_so (target_at c.args.targets.now c.loop-t.t-index _ c.t-item.result c.loop-t-test.true c.t-item.is) c.in_ok-found.found c.in_ok-found.ensures
