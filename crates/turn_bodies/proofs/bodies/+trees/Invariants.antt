use Rattle.std.proofs.Common.{◌+◌, ◌*◌}
use Rattle.turn_bodies.proofs.bodies.+trees.Given as goal

abbrev pub decreases-tree_of : goal.decreases-tree_of
decreases-tree_of l = 6 * l.most

abbrev pub decreases-block_of : goal.decreases-block_of
decreases-block_of l = 6 * l.left + 5

abbrev pub decreases-end_of : goal.decreases-end_of
decreases-end_of l = 6 * l.left + 4

abbrev pub decreases-boxed_call : goal.decreases-boxed_call
decreases-boxed_call l = 6 * l.left + 3

abbrev pub decreases-behind_call : goal.decreases-behind_call
decreases-behind_call l = 6 * l.left + 2

abbrev pub decreases-boxed_tree : goal.decreases-boxed_tree
decreases-boxed_tree l = 6 * l.most + 1
