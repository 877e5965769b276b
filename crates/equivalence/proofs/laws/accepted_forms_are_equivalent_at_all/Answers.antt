use Rattle.equivalence.proofs.Theorem.{equivalent_at_all}
use Rattle.equivalence.proofs.laws.accepted_forms_are_equivalent_at_all.Goals as goal

pub returns : goal.returns
returns c = λ s written forms q checked small accepted.
    let f = c.args.f.now.function in
    let slots = c.args.f.now.slots in
    equivalent_at_all s f slots forms q small accepted (c.forms_of_checked_functions_keep_answers.ensures forms.goto accepted.lowered) c.naming_keeps_answers.ensures
    (λ tables args many few. c.forms_answer_as_the_query.ensures s written f slots forms.goto forms.ssa forms.anf forms.tail q checked accepted.lowered accepted.named
    accepted.called accepted.templated accepted.merged accepted.columned tables args many few)
