use Rattle.std.proofs.Common.{◌≤◌, ◌∙◌, arith}
use Rattle.turn_query.specs.Plans.{as_plan}
use Rattle.turn_query.proofs.LevelRules.{next_turn, no_turn}
use Rattle.turn_query.proofs.levels.over_turns.Goals as goal

pub loop-left-preserved : goal.loop-left-preserved
loop-left-preserved c =
    let some : 1 ≤ c.loop-left.left = omega (arith, c.loop-left-test.true) in
    next_turn c.args.columns c.args.width c.loop-left.left (as_plan c.args.plan.now) c.loop-left.item c.in_ok-item.item some
    c.in_ok-item.ensures
    ∙ c.loop-left.invariant

pub returns : goal.returns
returns c =
    let none : c.loop-left.left ≤ 0 = omega (arith, c.loop-left-test.false) in
    no_turn c.args.columns c.args.width c.loop-left.left (as_plan c.args.plan.now) c.loop-left.item none ∙ c.loop-left.invariant
