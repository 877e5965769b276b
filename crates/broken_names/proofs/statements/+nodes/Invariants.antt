use Rattle.std.proofs.Common.{drop}
use Rattle.away_names.specs.Places.{scope}
use Rattle.broken_names.proofs.NodeSearch.{Leads, LeadsArms}
use Rattle.broken_names.proofs.statements.+nodes.Given as goal

abbrev pub invariant-in_arms-loop-a : goal.invariant-in_arms-loop-a
invariant-in_arms-loop-a l = LeadsArms l.fn.broken (scope l.fn.s) l.fn.list l.fn.node (drop l.a-index l.fn.list) l.left

abbrev pub invariant-in_statements-loop-x : goal.invariant-in_statements-loop-x
invariant-in_statements-loop-x l = Leads l.fn.broken (scope l.fn.s) l.fn.list l.fn.node (drop l.x-index l.fn.list) l.left
