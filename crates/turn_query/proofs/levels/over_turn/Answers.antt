use Rattle.std.proofs.Common.{◌≡◌, IfOk, subst, ap, ◌∙◌}
use Rattle.turn_query.specs.Plans.{as_plan}
use Rattle.turn_query.specs.TurnTree.{over_steps}
use Rattle.turn_query.proofs.LevelRules.{over_turn_is}
use Rattle.turn_query.proofs.levels.over_turn.Goals as goal

pub returns : goal.returns
returns c =
    subst (λ v. IfOk c.level_as.result (λ i. i ≡ v))
    (over_turn_is c.args.columns c.args.width (as_plan c.args.plan.now) c.in_ok-cells.cells c.in_ok-item.item c.args.from c.in_ok-last.last
    c.in_ok-cells.ensures (c.in_ok-item.ensures ∙ ap (λ es. over_steps c.args.columns 0 c.args.width es c.args.from) c.as_slice.ensures)
    c.in_ok-last.ensures) c.level_as.ensures
