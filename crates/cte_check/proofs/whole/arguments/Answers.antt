use Rattle.away_values.specs.declared.types.Ty.TheVariants as ty
use Rattle.cte_reads.proofs.RowsRead.{one_read, all_read}
use Rattle.cte_check.proofs.WholeEvents.{arguments_next, arguments_over}
use Rattle.cte_check.proofs.whole.arguments.Goals as goal

pub loop-i-init : goal.loop-i-init
loop-i-init c to h = h

pub loop-i-preserved : goal.loop-i-preserved
loop-i-preserved c =
    one_read c.loop-i.invariant c.argument-at.ensures
    (arguments_next c.args.g.now c.args.params.now c.args.places.now c.as_slice-columns.result.now c.as_slice-columns.ensures c.loop-i.i ty.Bigint c.place_param.result c.loop-i-test.true c.place_param.ensures)

pub returns : goal.returns
returns c = all_read c.loop-i.invariant (arguments_over c.args.g.now c.args.params.now c.args.places.now c.as_slice-columns.result.now c.as_slice-columns.ensures c.loop-i.i c.loop-i-test.false)
