use Rattle.away_trees.specs.declared.queries.Expr.TheVariants as expr
use Rattle.cte_reads.proofs.OneByOne.{as_reads}
use Rattle.cte_reads.proofs.TreeEvents.{cast_events}
use Rattle.cte_reads.proofs.parts.null_of.Goals as goal

pub returns : goal.returns
returns c = as_reads (cast_events c.args.ty expr.Null) c.cast.ensures
