use Rattle.cte_names.proofs.NamedOnce.{table_named_once}
use Rattle.cte_names.proofs.trees.the_table_is_named_once.Goals as goal

pub returns : goal.returns
returns c = table_named_once
