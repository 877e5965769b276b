use Rattle.std.proofs.Common.{◌≡◌, ◌+◌, take}
use Rattle.std.specs.List.{count_by}
use Rattle.function_places.specs.LimitPlaces as spec
use Rattle.function_places.proofs.limit_places.first_above.Given as goal

abbrev pub invariant-loop-number : goal.invariant-loop-number
invariant-loop-number l = l.left + count_by (spec.counts l.which) (take l.number l.nodes) ≡ spec.most l.which
