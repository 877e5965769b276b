use Rattle.cte_reads.proofs.OneByOne.{then_reads, as_reads}
use Rattle.cte_reads.specs.Puts.{exprs_put}
use Rattle.cte_check.specs.Whole as spec
use Rattle.cte_check.proofs.WholeEvents.{row_select_events}
use Rattle.cte_check.proofs.whole.first_term.Goals as goal

pub returns : goal.returns
returns c =
    let given = as_reads (λ rest t. exprs_put (spec.arguments c.args.g.now (c.params_of.ensures t) (c.places_of.ensures t)) rest) c.arguments-at.ensures in
    as_reads (row_select_events c.args.label _ c.args.g.now.result)
    (then_reads c.enter.ensures (then_reads c.empty-at.ensures (then_reads c.open.ensures (then_reads c.truth-at.ensures (then_reads c.behind-at.ensures
    (then_reads given (then_reads c.null_of.ensures (then_reads c.null_of-at.ensures (then_reads c.close.ensures c.end_of_body.ensures)))))))))
