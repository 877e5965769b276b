use Rattle.cte_reads.proofs.OneByOne.{then_reads}
use Rattle.cte_reads.proofs.parts.open_body.Goals as goal

pub returns : goal.returns
returns c = then_reads c.enter.ensures (then_reads c.open-at.ensures c.gate_item.ensures)
