use Rattle.std.proofs.Common.{◌≡◌, IfOk, subst, length}
use Rattle.turn_query.specs.FilledTurns.{entry_turn, start}
use Rattle.turn_query.specs.Plans.{as_plan}
use Rattle.turn_query.specs.TurnTree.{level_as}
use Rattle.turn_query.proofs.QueryRules.{turn_over}
use Rattle.turn_query.proofs.query.first.Goals as goal

pub returns : goal.returns
returns c =
    let w = c.args.w.now in
    let a = c.args.anf.now in
    let r = c.args.tail.now in
    let entry = c.args.entry in
    let n = length w.columns.now in
    subst (λ v. IfOk c.all_of.result (λ s. s ≡ v))
    (turn_over n c.in_ok-width.width (as_plan c.args.turn.now) (entry_turn w a r entry) c.in_ok-start.start
    (level_as n 0 (start w a r entry)) c.in_ok-item.item c.in_ok-width.ensures c.requires c.in_ok-start.ensures c.in_ok-item.ensures) c.all_of.ensures
