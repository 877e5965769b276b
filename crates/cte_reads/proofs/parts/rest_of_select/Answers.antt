use Rattle.cte_reads.proofs.OneByOne.{then_reads}
use Rattle.cte_reads.proofs.parts.rest_of_select.Goals as goal

pub returns : goal.returns
returns c = then_reads c.empty-at.ensures (then_reads c.empty.ensures c.leave.ensures)
