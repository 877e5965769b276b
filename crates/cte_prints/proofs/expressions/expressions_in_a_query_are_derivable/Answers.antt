use Rattle.cte_prints.proofs.DerivableExpressions.{expressions_derivable}
use Rattle.cte_prints.proofs.expressions.expressions_in_a_query_are_derivable.Goals as goal

pub returns : goal.returns
returns c = expressions_derivable
