use Rattle.cte_names.proofs.Entries.{placed_are_clear}
use Rattle.cte_names.proofs.expressions.placed_expressions_are_clear.Goals as goal

pub returns : goal.returns
returns c = placed_are_clear
