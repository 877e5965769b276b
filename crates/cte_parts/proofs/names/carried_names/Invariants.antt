use Rattle.std.proofs.Common.{◌≡◌}
use Rattle.cte_parts.specs.Names.{carried_names}
use Rattle.cte_parts.proofs.names.carried_names.Given as goal

abbrev pub invariant-loop-place : goal.invariant-loop-place
invariant-loop-place l = l.all ≡ carried_names l.place
