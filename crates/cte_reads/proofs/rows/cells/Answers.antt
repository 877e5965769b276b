use Rattle.away_values.specs.declared.types.Ty.TheVariants as ty
use Rattle.cte_reads.proofs.RowsRead.{one_read, all_read}
use Rattle.cte_reads.proofs.RowEvents.{cells_next, cells_over}
use Rattle.cte_reads.proofs.rows.cells.Goals as goal

pub loop-i-init : goal.loop-i-init
loop-i-init c to h = h

pub loop-i-preserved : goal.loop-i-preserved
loop-i-preserved c =
    one_read c.loop-i.invariant c.cell-at.ensures
    (cells_next c.args.depth c.args.places.now c.args.refs.now c.args.columns.now c.loop-i.i ty.Bigint c.lookup.result c.loop-i-test.true c.lookup.ensures)

pub returns : goal.returns
returns c = all_read c.loop-i.invariant (cells_over c.args.depth c.args.places.now c.args.refs.now c.args.columns.now c.loop-i.i c.loop-i-test.false)
