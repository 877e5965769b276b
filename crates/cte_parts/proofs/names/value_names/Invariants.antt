use Rattle.std.proofs.Common.{◌≡◌}
use Rattle.cte_parts.specs.Names.{value_names}
use Rattle.cte_parts.proofs.names.value_names.Given as goal

abbrev pub invariant-loop-place : goal.invariant-loop-place
invariant-loop-place l = l.all ≡ value_names l.place
