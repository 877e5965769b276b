use Rattle.cte_reads.proofs.OneByOne.{then_reads}
use Rattle.cte_reads.proofs.lets.whole_literal.Goals as goal

pub returns : goal.returns
returns c = then_reads (then_reads c.open-cast_end.ensures c.open-literal_end.ensures) c.close.ensures
