use Rattle.turn_terms.proofs.ChosenTerms.{chosen_is_total}
use Rattle.turn_terms.proofs.laws.what_is_chosen_is_total.Goals as goal

pub returns : goal.returns
returns c = chosen_is_total
