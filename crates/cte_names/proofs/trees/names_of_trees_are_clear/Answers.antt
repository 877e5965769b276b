use Rattle.cte_names.proofs.TreesClear.{trees_clear}
use Rattle.cte_names.proofs.trees.names_of_trees_are_clear.Goals as goal

pub returns : goal.returns
returns c = trees_clear
