use Rattle.std.proofs.Common.{◌≡◌, map, take}
use Rattle.cte_template.specs.Places.{carried_place}
use Rattle.cte_template.proofs.places.row_places.Given as goal

abbrev pub invariant-loop-column : goal.invariant-loop-column
invariant-loop-column l = l.list ≡ map (carried_place l.carried) (take l.column-index l.columns)
