use Rattle.cte_reads.proofs.OneByOne.{then_reads}
use Rattle.cte_reads.proofs.parts.close_lateral.Goals as goal

pub returns : goal.returns
returns c = then_reads c.close.ensures c.close-2.ensures
