use Rattle.std.proofs.Common.{◌≡◌, ◌+◌, take, sum_by}
use Rattle.away_trees.specs.Count.{nodes_of, nodes_of_arm}
use Rattle.away_trees.proofs.count.+count.Given as goal

abbrev pub invariant-with_statements-loop-i : goal.invariant-with_statements-loop-i
invariant-with_statements-loop-i l = l.count ≡ l.fn.before + sum_by nodes_of (take l.i l.list)

abbrev pub invariant-with_arms-loop-i : goal.invariant-with_arms-loop-i
invariant-with_arms-loop-i l = l.count ≡ l.fn.before + sum_by nodes_of_arm (take l.i l.list)
