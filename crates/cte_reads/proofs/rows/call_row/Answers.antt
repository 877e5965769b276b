use Rattle.cte_reads.specs.Rows.{cells_at}
use Rattle.cte_reads.proofs.OneByOne.{then_reads, as_reads}
use Rattle.cte_reads.proofs.RowEvents.{call_events}
use Rattle.cte_reads.proofs.rows.call_row.Goals as goal

pub returns : goal.returns
returns c =
    as_reads (call_events c.args.label (cells_at c.args.depth 0 c.args.places.now c.args.refs.now c.args.columns.now) c.args.result_type)
    (then_reads c.truth.ensures (then_reads c.behind-at.ensures (then_reads c.cells-at.ensures (then_reads c.null_of.ensures c.null_of-2.ensures))))
