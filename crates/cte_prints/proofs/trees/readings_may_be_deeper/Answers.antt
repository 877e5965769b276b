use Rattle.cte_prints.proofs.ReadingDepth.{deepen}
use Rattle.cte_prints.proofs.trees.readings_may_be_deeper.Goals as goal

pub returns : goal.returns
returns c d more n ts t rest h r = deepen d more h r
