use Rattle.std.proofs.Common.{◌≡◌, ◌++◌, map, take}
use Rattle.sql_meaning.specs.Trees.{item}
use Rattle.cte_template.specs.Places.{place_of}
use Rattle.cte_template.specs.Written.{cells_at}
use Rattle.cte_template.proofs.rows.add_cells.Given as goal

abbrev pub invariant-loop-i : goal.invariant-loop-i
invariant-loop-i l = l.list ≡ l.fn.list ++ map item (cells_at 0 l.depth (place_of l.pairs) l.keys l.args (take l.i l.columns))
