use Rattle.std.proofs.Common.{drop}
use Rattle.away_names.specs.Places.{scope}
use Rattle.broken_names.proofs.Ways.{Leads}
use Rattle.broken_names.proofs.+culprits.Given as goal

abbrev pub invariant-queries::in_from-loop-f : goal.invariant-queries::in_from-loop-f
invariant-queries::in_from-loop-f l = Leads l.broken (scope l.s) l.from l.seen (drop l.f-index l.from)
