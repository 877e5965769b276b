use Rattle.std.proofs.Common.{◌≡◌, IfOk, subst}
use Rattle.turn_query.specs.Plans.{as_plan}
use Rattle.turn_query.specs.TurnTree.{going}
use Rattle.turn_query.proofs.QueryRules.{turns_over}
use Rattle.turn_query.proofs.query.turns_of.Goals as goal

pub returns : goal.returns
returns c =
    let n = c.args.columns in
    subst (λ v. IfOk c.all_of.result (λ s. s ≡ v))
    (turns_over n c.in_ok-width.width c.args.turns (as_plan c.args.plan.now) c.in_ok-going.going (going c.args.tables n) c.in_ok-item.item c.in_ok-width.ensures
    c.in_ok-going.ensures c.in_ok-item.ensures) c.all_of.ensures
