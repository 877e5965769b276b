use Rattle.std.proofs.Common.{◌≡◌, ◌++◌, drop}
use Rattle.select_into.specs.Wrapped.{items_as}
use Rattle.select_into.proofs.picked.items_as.Given as goal

abbrev pub invariant-loop-i : goal.invariant-loop-i
invariant-loop-i l = l.list ++ items_as (drop l.i l.types) (drop l.i l.items) ≡ items_as l.types l.items
