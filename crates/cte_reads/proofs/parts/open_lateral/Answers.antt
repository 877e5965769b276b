use Rattle.cte_reads.proofs.OneByOne.{then_reads}
use Rattle.cte_reads.proofs.parts.open_lateral.Goals as goal

pub returns : goal.returns
returns c = then_reads c.open-at.ensures (then_reads c.open.ensures c.empty.ensures)
