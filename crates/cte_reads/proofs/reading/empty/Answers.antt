use Rattle.cte_reads.proofs.OneByOne.{then_reads}
use Rattle.cte_reads.proofs.reading.empty.Goals as goal

pub returns : goal.returns
returns c = then_reads c.open.ensures c.close.ensures
