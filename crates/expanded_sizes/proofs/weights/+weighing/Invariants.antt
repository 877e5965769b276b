use Rattle.std.proofs.Common.{◌≡◌, ◌+◌, take, sum_by}
use Rattle.expanded_sizes.specs.Weighing.{weight_of, weight_of_arm}
use Rattle.expanded_sizes.proofs.weights.+weighing.Given as goal

abbrev pub invariant-with_statements-loop-i : goal.invariant-with_statements-loop-i
invariant-with_statements-loop-i l = l.count ≡ l.fn.before + sum_by (weight_of l.g) (take l.i l.list)

abbrev pub invariant-with_arms-loop-i : goal.invariant-with_arms-loop-i
invariant-with_arms-loop-i l = l.count ≡ l.fn.before + sum_by (weight_of_arm l.g) (take l.i l.list)
