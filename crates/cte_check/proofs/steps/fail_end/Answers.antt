use Rattle.std.proofs.Common.{subst}
use Rattle.cte_reads.specs.Puts.{exprs_put}
use Rattle.cte_reads.specs.Read.{Reads}
use Rattle.cte_reads.specs.Rows.{fault_list}
use Rattle.cte_check.proofs.Walking as walking
use Rattle.cte_check.proofs.steps.fail_end.Goals as goal

pub returns : goal.returns
returns c = λ table.
    walking.after_failing table c.args.g.now c.args.w.now c.args.class c.to_list-at.result c.fault_row-at.result c.close.result c.to_list-at.ensures
    (subst (λ columns. Reads (exprs_put (fault_list columns c.args.g.now.result c.args.class)) c.args.g.now.events.now c.to_list-at.result c.fault_row-at.result) c.as_slice.ensures c.fault_row-at.ensures)
    c.close.ensures
