use Rattle.std.proofs.Common.{◌≡◌, ◌++◌, drop, map}
use Rattle.sql_meaning.specs.Trees.{item}
use Rattle.inline_calls.specs.Tree.{cells}
use Rattle.inline_calls.proofs.starts.add_cells.Given as goal

abbrev pub invariant-loop-i : goal.invariant-loop-i
invariant-loop-i l = l.list ++ map item (cells l.es l.i l.keys l.params (drop l.i l.columns)) ≡ l.initial.list ++ map item (cells l.es 0 l.keys l.params l.columns)
