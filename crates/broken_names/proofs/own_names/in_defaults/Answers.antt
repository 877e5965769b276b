use Rattle.broken_names.proofs.OwnSteps.{begun, default_here, default_passed, some_so}
use Rattle.broken_names.proofs.own_names.in_defaults.Goals as goal

pub loop-d-init : goal.loop-d-init
loop-d-init c = begun c.in_ok-variables.variables c.in_ok-variables.ensures

pub returns-then-is_some : goal.returns-then-is_some
returns-then-is_some c =
    some_so (default_here c.args.decls.now c.loop-d.d-index _ c.d-item.result c.loop-d-test.true c.d-item.is c.as_slice.ensures c.loop-d.invariant) c.in_ok-found.found
    c.in_ok-found.ensures

pub loop-d-preserved : goal.loop-d-preserved
loop-d-preserved c =
    default_passed c.args.decls.now c.loop-d.d-index _ c.d-item.result c.loop-d-test.true c.d-item.is c.loop-d.invariant c.in_ok-variables-2.variables
    c.in_ok-variables-2.ensures
