use Rattle.std.proofs.Common.{◌≡◌, map, take}
use Rattle.cte_template.specs.Places.{place_of}
use Rattle.cte_template.specs.Written.{column_at}
use Rattle.cte_template.proofs.terms.columns_of.Given as goal

abbrev pub invariant-loop-name : goal.invariant-loop-name
invariant-loop-name l = l.list ≡ map (column_at l.depth (place_of l.pairs)) (take l.name-index l.names)
