use Rattle.cte_prints.proofs.DerivableExpressions.{file_expressions_derivable}
use Rattle.cte_prints.proofs.expressions.expressions_of_a_file_are_derivable.Goals as goal

pub returns : goal.returns
returns c = file_expressions_derivable
