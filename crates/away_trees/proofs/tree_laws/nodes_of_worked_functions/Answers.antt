use Rattle.std.proofs.Common.{refl}
use Rattle.away_trees.specs.Count.{nodes, weight, nodes_of}
use Rattle.away_trees.specs.declared.statements.Stmt.TheBlock as b
use Rattle.away_trees.proofs.tree_laws.nodes_of_worked_functions.Goals as goal

pub returns-clause-collatz_nodes : goal.returns-clause-collatz_nodes
unfolding nodes nodes_of b.hidden-the_row-Stmt-0 b.hidden-the_row-Arm-1 denote.Hole.Carrier.hidden
returns-clause-collatz_nodes c = refl

pub returns-clause-collatz_weight : goal.returns-clause-collatz_weight
unfolding weight nodes nodes_of b.hidden-the_row-Stmt-0 b.hidden-the_row-Arm-1 denote.Hole.Carrier.hidden
returns-clause-collatz_weight c = refl

pub returns-clause-walk_nodes : goal.returns-clause-walk_nodes
unfolding nodes nodes_of b.hidden-the_row-Stmt-0 b.hidden-the_row-Arm-1 denote.Hole.Carrier.hidden
returns-clause-walk_nodes c = refl

pub returns-clause-walk_weight : goal.returns-clause-walk_weight
unfolding weight nodes nodes_of b.hidden-the_row-Stmt-0 b.hidden-the_row-Arm-1 denote.Hole.Carrier.hidden
returns-clause-walk_weight c = refl
