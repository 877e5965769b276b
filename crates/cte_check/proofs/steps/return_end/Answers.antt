use Rattle.std.proofs.Common.{subst}
use Rattle.cte_reads.specs.Puts.{exprs_put}
use Rattle.cte_reads.specs.Read.{Reads}
use Rattle.cte_reads.specs.Rows.{value_list}
use Rattle.cte_check.proofs.Walking as walking
use Rattle.cte_check.proofs.steps.return_end.Goals as goal

pub returns : goal.returns
returns c = λ table given.
    walking.after_returning table c.args.g.now c.args.w.now c.args.t.now c.in_ok-at.at c.to_list-at.result c.value_row-at.result c.close.result
    (c.in_ok-at.ensures table given.entries) c.to_list-at.ensures
    (subst (λ columns. Reads (exprs_put (value_list columns c.args.w.now.items)) c.args.g.now.events.now c.to_list-at.result c.value_row-at.result) c.as_slice.ensures c.value_row-at.ensures)
    c.close.ensures
