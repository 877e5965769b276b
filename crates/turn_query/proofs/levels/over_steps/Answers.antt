use Rattle.std.proofs.Common.{◌∙◌}
use Rattle.turn_query.proofs.LevelRules.{next_step, no_step, last_step}
use Rattle.turn_query.proofs.levels.over_steps.Goals as goal

pub loop-i-init : goal.loop-i-init
loop-i-init c = no_step c.args.columns c.args.width c.args.steps.now c.args.from

pub loop-i-preserved : goal.loop-i-preserved
loop-i-preserved c =
    next_step c.args.columns c.args.width c.args.steps.now c.loop-i.i c.in_ok-sum.field-0 c.index-steps-i.result _ c.loop-i.item c.in_ok-item.item
    c.loop-i-test.true c.in_ok-sum.ensures c.index-steps-i.is c.in_ok-item.ensures
    ∙ c.loop-i.invariant

pub returns : goal.returns
returns c = last_step c.args.columns c.args.width c.args.steps.now c.loop-i.i c.loop-i.item c.loop-i-test.false ∙ c.loop-i.invariant
