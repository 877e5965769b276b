use Rattle.away_trees.specs.declared.queries.Expr.TheVariants as expr
use Rattle.away_values.specs.declared.types.Ty.TheVariants as ty
use Rattle.cte_reads.proofs.OneByOne.{then_reads, as_reads}
use Rattle.cte_reads.proofs.TreeEvents.{cast_events}
use Rattle.cte_reads.proofs.parts.class_text.Goals as goal

pub returns : goal.returns
returns c = as_reads (cast_events ty.Text (expr.Str c.args.class.code)) (then_reads c.open-at.ensures (then_reads c.open.ensures (then_reads c.event-at.ensures (then_reads c.close.ensures c.close-2.ensures))))
