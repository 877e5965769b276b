use Rattle.std.proofs.Common.{◌≡◌, ◌++◌, map, take}
use Rattle.sql_meaning.specs.Trees.{item}
use Rattle.cte_template.specs.Making.{making}
use Rattle.cte_template.specs.Written.{arguments_at}
use Rattle.cte_template.proofs.rows.add_arguments.Given as goal

abbrev pub invariant-loop-i : goal.invariant-loop-i
invariant-loop-i l = l.list ≡ l.fn.list ++ map item (arguments_at (making l.w) 0 l.keys l.params (take l.i l.columns))
