use Rattle.cte_reads.proofs.OneByOne.{then_reads}
use Rattle.cte_reads.proofs.parts.to_list.Goals as goal

pub returns : goal.returns
returns c = then_reads c.close.ensures c.open.ensures
