use Rattle.away_trees.specs.declared.queries.Expr.TheVariants as expr
use Rattle.away_values.specs.declared.types.Ty.TheVariants as ty
use Rattle.cte_reads.proofs.OneByOne.{as_reads}
use Rattle.cte_reads.proofs.TreeEvents.{cast_events}
use Rattle.cte_reads.proofs.parts.truth.Goals as goal

pub returns : goal.returns
returns c = as_reads (cast_events ty.Boolean (expr.Bool c.args.v)) c.cast.ensures
