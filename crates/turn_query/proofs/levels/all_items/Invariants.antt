use Rattle.std.proofs.Common.{◌≡◌, map}
use Rattle.sql_meaning.specs.Trees.{item}
use Rattle.turn_template.specs.TurnTemplate.{all_cells}
use Rattle.turn_query.proofs.levels.all_items.Given as goal

abbrev pub invariant-loop-i : goal.invariant-loop-i
invariant-loop-i l = l.list ≡ map item (all_cells l.i)
