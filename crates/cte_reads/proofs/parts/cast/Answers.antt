use Rattle.cte_reads.proofs.OneByOne.{then_reads}
use Rattle.cte_reads.proofs.parts.cast.Goals as goal

pub returns : goal.returns
returns c = then_reads c.open-at.ensures (then_reads c.empty_node.ensures c.close.ensures)
