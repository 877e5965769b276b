use Rattle.cte_prints.proofs.ReadingDepth.{read_so}
use Rattle.cte_prints.proofs.trees.what_is_derived_with_a_depth_is_read.Goals as goal

pub returns : goal.returns
returns c d n ts t rest h = read_so h
