use Rattle.away_values.specs.declared.types.Ty.TheVariants as ty
use Rattle.sql_meaning.specs.Trees.{col, null_of}
use Rattle.cte_reads.proofs.OneByOne.{then_reads, as_reads}
use Rattle.cte_reads.proofs.RowEvents.{end_events}
use Rattle.cte_reads.proofs.rows.value_row.Goals as goal

pub returns : goal.returns
returns c =
    as_reads (end_events c.args.columns.now (col 0 c.args.item 0) (null_of ty.Text))
    (then_reads c.begin_of_end-at.ensures (then_reads c.column.ensures c.null_of.ensures))
