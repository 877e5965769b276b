use Rattle.std.proofs.Common.{◌≡◌, ◌∷◌, [], IfOk, subst}
use Rattle.turn_template.specs.TurnTemplate.{numbered}
use Rattle.turn_terms.specs.Sameness.{same}
use Rattle.turn_terms.specs.Writing.{types_in}
use Rattle.turn_query.specs.Plans.{as_plan}
use Rattle.turn_query.specs.TurnTree.{turn_plan}
use Rattle.turn_query.proofs.query.entry_turn.Goals as goal

pub returns : goal.returns
returns c =
    let w = c.args.w.now in
    let entry = c.args.entry in
    subst
    (λ k. IfOk c.turn_plan.result (λ p. as_plan p
    ≡ turn_plan w.table.now (types_in w) w.columns.now w.result (numbered same) c.args.anf.now c.args.tail.now k (entry ∷ []))) c.entry_place.ensures
    c.turn_plan.ensures
