use Rattle.expanded_sizes.proofs.TokensNest as proved
use Rattle.expanded_sizes.proofs.laws.tokens_nest.Goals as goal

pub returns : goal.returns
returns c = proved.tokens_nest
