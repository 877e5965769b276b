use Rattle.cte_reads.proofs.OneByOne.{then_reads}
use Rattle.cte_reads.proofs.parts.end_of_body.Goals as goal

pub returns : goal.returns
returns c = then_reads c.empty.ensures c.rest_of_select.ensures
