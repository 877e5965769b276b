use Rattle.std.proofs.Common.{◌≡◌, ◌++◌, map, take}
use Rattle.sql_meaning.specs.Trees.{item}
use Rattle.cte_template.specs.Starts.{parameters_at}
use Rattle.cte_template.proofs.starts.add_parameters.Given as goal

abbrev pub invariant-loop-i : goal.invariant-loop-i
invariant-loop-i l = l.list ≡ l.fn.list ++ map item (parameters_at 0 l.keys l.params (take l.i l.columns))
