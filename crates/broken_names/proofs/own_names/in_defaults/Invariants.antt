use Rattle.std.proofs.Common.{drop}
use Rattle.away_names.specs.Places.{scope}
use Rattle.broken_names.proofs.OwnSteps.{Leads}
use Rattle.broken_names.proofs.own_names.in_defaults.Given as goal

abbrev pub invariant-loop-d : goal.invariant-loop-d
invariant-loop-d l = Leads l.broken (scope l.s) l.decls l.variables (drop l.d-index l.decls)
