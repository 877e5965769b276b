use Rattle.cte_reads.proofs.OneByOne.{then_reads}
use Rattle.cte_check.proofs.whole.up_to_branches.Goals as goal

pub returns : goal.returns
returns c = then_reads c.open.ensures (then_reads c.open-at.ensures (then_reads c.open-2.ensures (then_reads c.open-at-2.ensures (then_reads c.first_term.ensures (then_reads c.close-at.ensures (then_reads c.enter.ensures (then_reads c.open-at-3.ensures (then_reads c.working_table.ensures c.open_lateral.ensures))))))))
