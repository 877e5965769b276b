use Rattle.cte_reads.proofs.OneByOne.{then_reads}
use Rattle.cte_check.proofs.whole.from_branches.Goals as goal

pub returns : goal.returns
returns c = then_reads c.rest_of_step.ensures (then_reads c.close.ensures (then_reads c.close-at.ensures (then_reads c.last.ensures c.close-2.ensures)))
