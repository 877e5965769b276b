use Rattle.std.proofs.Common.{◌≡◌}
use Rattle.select_into.specs.Wrapped.{value_names}
use Rattle.select_into.proofs.wrapping.value_names.Given as goal

abbrev pub invariant-loop-place : goal.invariant-loop-place
invariant-loop-place l = l.all ≡ value_names l.place
