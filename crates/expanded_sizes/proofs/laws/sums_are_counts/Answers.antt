use Rattle.expanded_sizes.proofs.SumsAreCounts as proved
use Rattle.expanded_sizes.proofs.laws.sums_are_counts.Goals as goal

pub returns : goal.returns
returns c = proved.sums_are_counts
