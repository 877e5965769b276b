use Rattle.turn_equivalence.proofs.Chain.{equivalent}
use Rattle.turn_equivalence.proofs.laws.forms_in_turns_are_equivalent.Goals as goal

pub returns : goal.returns
returns call = λ s written g z a r c q checked small positive forms.
    let f = call.args.f.now.function in
    let slots = call.args.f.now.slots in
    equivalent s written f slots g z a r c q checked small positive forms (call.forms_of_checked_functions_keep_answers.ensures g forms.lowered)
    call.naming_keeps_answers.ensures
