use Rattle.cte_reads.proofs.OneByOne.{then_reads}
use Rattle.cte_reads.proofs.lets.open_literal.Goals as goal

pub returns : goal.returns
returns c = then_reads c.open-at.ensures c.open.ensures
