use Rattle.std.proofs.Common.{◌≡◌, IfOk, subst}
use Rattle.turn_terms.specs.Sameness.{same}
use Rattle.turn_terms.specs.Writing.{types_in}
use Rattle.turn_query.specs.Plans.{as_plan}
use Rattle.turn_query.specs.TurnTree.{turn_plan}
use Rattle.turn_query.proofs.QueryRules.{single}
use Rattle.turn_query.proofs.query.heads_turn.Goals as goal

pub returns : goal.returns
returns c =
    let w = c.args.w.now in
    let heads = c.args.heads.now in
    subst
    (λ b. IfOk c.turn_plan.result (λ p. as_plan p
    ≡ turn_plan w.table.now (types_in w) w.columns.now w.result (record { same = same; alone = b }) c.args.anf.now c.args.tail.now 0 heads)) (single heads)
    c.turn_plan.ensures
