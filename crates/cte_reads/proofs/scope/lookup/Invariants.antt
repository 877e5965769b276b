use Rattle.std.proofs.Common.{◌≡◌}
use Rattle.cte_reads.specs.References as spec
use Rattle.cte_reads.proofs.Lookups.{from_place}
use Rattle.cte_reads.proofs.scope.lookup.Given as goal

abbrev pub invariant-loop-i : goal.invariant-loop-i
invariant-loop-i l = spec.lookup l.keys l.refs l.key ≡ from_place l.keys l.refs l.key l.i
