use Rattle.std.proofs.Common.{suc, pos}
use Rattle.away_trees.specs.declared.queries.Expr.TheVariants as expr
use Rattle.away_values.specs.declared.types.Ty.TheVariants as ty
use Rattle.cte_reads.proofs.OneByOne.{as_reads}
use Rattle.cte_reads.proofs.TreeEvents.{cast_events}
use Rattle.cte_reads.proofs.parts.behind.Goals as goal

pub returns : goal.returns
returns c = as_reads (cast_events ty.Bigint (expr.Int (pos (suc c.args.n)))) c.cast.ensures
