use Rattle.turn_terms.proofs.SameTrees.{same_is}
use Rattle.turn_terms.proofs.laws.what_is_the_same_is_one.Goals as goal

pub returns : goal.returns
returns c = same_is
