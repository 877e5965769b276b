use Rattle.std.proofs.Common.{ℕ, List, drop, Option}
use Rattle.away_trees.specs.declared.queries.Expr.{Expr}
use Rattle.cte_check.specs.Walks.{GivenOf}
use Rattle.cte_check.specs.Whole.{BranchesRead}
use Rattle.cte_check.proofs.Branches.{LabelsRead}
use Rattle.cte_check.proofs.check.branches.Given as goal

-- whoever reads the branches that are left has read all
abbrev pub invariant-loop-i : goal.invariant-loop-i
invariant-loop-i l =
    (table : List Expr) → GivenOf table l.g → (to : Option ℕ) → LabelsRead table l.g l.i (drop l.i l.g.tail.now.labels) l.at to → BranchesRead table l.g l.initial.at to
