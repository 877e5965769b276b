use Rattle.sql_meaning.specs.Trees.{null_of}
use Rattle.cte_reads.specs.Rows.{class_text}
use Rattle.cte_reads.proofs.OneByOne.{then_reads, as_reads}
use Rattle.cte_reads.proofs.RowEvents.{end_events}
use Rattle.cte_reads.proofs.rows.fault_row.Goals as goal

pub returns : goal.returns
returns c =
    as_reads (end_events c.args.columns.now (null_of c.args.result_type) (class_text c.args.class))
    (then_reads c.begin_of_end-at.ensures (then_reads c.null_of.ensures c.class_text.ensures))
