use Rattle.std.proofs.Common.{◌≡◌}
use Rattle.cte_reads.specs.References as spec
use Rattle.cte_reads.proofs.Lookups.{from_place}
use Rattle.cte_check.proofs.whole.place_param.Given as goal

abbrev pub invariant-loop-i : goal.invariant-loop-i
invariant-loop-i l = spec.lookup l.places l.params l.column ≡ from_place l.places l.params l.column l.i
