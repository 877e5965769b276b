use Rattle.cte_prints.proofs.TreesDerivable.{trees_derivable}
use Rattle.cte_prints.proofs.queries.queries_can_be_written.Goals as goal

pub returns : goal.returns
returns c = trees_derivable
