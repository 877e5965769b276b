use Rattle.std.proofs.Common.{sym}
use Rattle.away_values.specs.declared.types.Ty.TheVariants as ty
use Rattle.tree_events.proofs.PutNodes.{row_map}
use Rattle.sql_meaning.specs.Trees.{null_of}
use Rattle.cte_reads.specs.Puts.{expr_put}
use Rattle.cte_reads.proofs.OneByOne.{as_reads}
use Rattle.cte_reads.proofs.RowsRead.{one_read, all_read, row_next, row_over}
use Rattle.cte_reads.proofs.parts.exprs_of_nulls.Goals as goal

pub loop-ty-init : goal.loop-ty-init
loop-ty-init c to h = as_reads (λ rest. sym (row_map expr_put null_of c.args.types.now rest)) h

pub loop-ty-preserved : goal.loop-ty-preserved
loop-ty-preserved c =
    one_read c.loop-ty.invariant c.null_of-at.ensures (row_next (λ t. expr_put (null_of t)) c.args.types.now c.loop-ty.ty-index ty.Bigint c.loop-ty-test.true)

pub returns : goal.returns
returns c = all_read c.loop-ty.invariant (row_over (λ t. expr_put (null_of t)) c.args.types.now c.loop-ty.ty-index c.loop-ty-test.false)
