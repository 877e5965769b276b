use Rattle.std.proofs.Common.{◌≡◌, map}
use Rattle.sql_meaning.specs.Template.{below}
use Rattle.sql_meaning.specs.Trees.{col, item}
use Rattle.cte_template.proofs.rows.all_columns.Given as goal

abbrev pub invariant-loop-i : goal.invariant-loop-i
invariant-loop-i l = l.list ≡ map item (map (col 0 l.item) (below l.i))
