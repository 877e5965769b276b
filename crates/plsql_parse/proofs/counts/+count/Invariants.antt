use Rattle.std.proofs.Common.{◌≡◌, ◌+◌, take, sum_by}
use Rattle.away_trees.specs.Limits.{variables_of, variables_of_arm, loops_of, loops_of_arm}
use Rattle.plsql_parse.proofs.counts.+count.Given as goal

abbrev pub invariant-with_statements-loop-i : goal.invariant-with_statements-loop-i
invariant-with_statements-loop-i l = record {
  variables : l.counts.variables ≡ l.fn.before.variables + sum_by variables_of (take l.i l.list);
  loops : l.counts.loops ≡ l.fn.before.loops + sum_by loops_of (take l.i l.list);
}

abbrev pub invariant-with_arms-loop-i : goal.invariant-with_arms-loop-i
invariant-with_arms-loop-i l = record {
  variables : l.counts.variables ≡ l.fn.before.variables + sum_by variables_of_arm (take l.i l.list);
  loops : l.counts.loops ≡ l.fn.before.loops + sum_by loops_of_arm (take l.i l.list);
}
