use Rattle.expanded_sizes.proofs.PrintedDepths.{nests_depth, statement_nests}
use Rattle.expanded_sizes.proofs.laws.printed_bodies_nest.Goals as goal

pub returns : goal.returns
returns c = λ body closed. nests_depth (statement_nests body closed)
