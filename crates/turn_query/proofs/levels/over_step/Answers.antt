use Rattle.std.proofs.Common.{◌≡◌, IfOk, subst}
use Rattle.turn_query.proofs.LevelRules.{over_step_is}
use Rattle.turn_query.proofs.levels.over_step.Goals as goal

pub returns : goal.returns
returns c =
    subst (λ v. IfOk c.level_as.result (λ i. i ≡ v))
    (over_step_is c.args.columns c.args.steps c.args.many c.in_ok-sum.field-0 c.args.step.now c.in_ok-list.list c.in_ok-level.level c.args.from
    c.in_ok-sum.ensures c.in_ok-list.ensures c.in_ok-level.ensures) c.level_as.ensures
