use Rattle.std.proofs.Common.{◌≡◌, drop}
use Rattle.cte_reads.specs.References as spec
use Rattle.cte_reads.proofs.FoundBehind.{behind}
use Rattle.cte_reads.proofs.scope.find_all.Given as goal

abbrev pub invariant-loop-n : goal.invariant-loop-n
invariant-loop-n l = spec.founds l.scope l.names ≡ behind l.refs (spec.founds l.scope (drop l.n-index l.names))
