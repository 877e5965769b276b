use Rattle.cte_prints.proofs.LikeDerivable.{like_derivable}
use Rattle.cte_prints.proofs.trees.the_like_of_what_is_read_is_derivable.Goals as goal

pub returns : goal.returns
returns c d n ts t u rest a h j = like_derivable a h u j
