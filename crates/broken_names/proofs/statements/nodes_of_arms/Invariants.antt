use Rattle.std.proofs.Common.{◌≡◌, sum_by, take}
use Rattle.away_trees.specs.Count.{nodes_of_arm}
use Rattle.broken_names.proofs.statements.nodes_of_arms.Given as goal

abbrev pub invariant-loop-a : goal.invariant-loop-a
invariant-loop-a l = l.nodes ≡ sum_by (λ a. nodes_of_arm a) (take l.a-index l.arms)
