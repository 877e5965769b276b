use Rattle.std.proofs.Common.{◌≡◌, ◌++◌, map, take}
use Rattle.sql_meaning.specs.Trees.{item}
use Rattle.call_forms.specs.Template.{argument_cells}
use Rattle.turn_terms.specs.Writing.{types_in}
use Rattle.turn_query.proofs.starts.add_arguments.Given as goal

abbrev pub invariant-loop-i : goal.invariant-loop-i
invariant-loop-i l = l.list ≡ l.fn.list ++ map item (argument_cells (types_in l.w) 0 l.places l.params (take l.i l.columns))
