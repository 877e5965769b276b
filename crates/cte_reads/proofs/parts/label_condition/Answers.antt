use Rattle.std.proofs.Common.{suc, pos}
use Rattle.away_values.specs.declared.operators.CmpOp.TheVariants as cmp
use Rattle.sql_meaning.specs.Trees.{col, number}
use Rattle.cte_reads.proofs.OneByOne.{then_reads, as_reads}
use Rattle.cte_reads.proofs.TreeEvents.{compare_events}
use Rattle.cte_reads.proofs.parts.label_condition.Goals as goal

pub returns : goal.returns
returns c = as_reads (compare_events cmp.Eq (col 2 0 1) (number (pos (suc c.args.label)))) (then_reads c.open-at.ensures (then_reads c.column-at.ensures (then_reads c.behind.ensures c.close.ensures)))
