use Rattle.expanded_sizes.proofs.SameDepths as proved
use Rattle.expanded_sizes.proofs.laws.names_are_of_no_depth.Goals as goal

pub returns : goal.returns
returns c = λ to e. (proved.renamed_depth to e, proved.closed_depth to e)
