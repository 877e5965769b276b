use Rattle.std.proofs.Common.{◌≡◌, ◌++◌, map, take}
use Rattle.sql_meaning.specs.Trees.{item}
use Rattle.cte_template.specs.CarriedWalks.{carried_at}
use Rattle.cte_template.proofs.rows.add_carried.Given as goal

abbrev pub invariant-loop-i : goal.invariant-loop-i
invariant-loop-i l = l.list ≡ l.fn.list ++ map item (carried_at l.depth 2 (take l.i l.carried))
