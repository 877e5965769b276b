use Rattle.turn_terms.proofs.WorkedTerms.{terms_are}
use Rattle.turn_terms.proofs.laws.worked_terms_are_chosen.Goals as goal

pub returns : goal.returns
returns c = terms_are
