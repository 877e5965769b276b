use Rattle.std.proofs.Common.{◌≡◌, drop, fold}
use Rattle.away_types.specs.FunctionChecks.{start, with_param}
use Rattle.away_types.proofs.parameters.started.Given as goal

abbrev pub invariant-loop-p : goal.invariant-loop-p
invariant-loop-p l = start l.params ≡ fold with_param (record { slots = l.slots; variables = l.variables }) (drop l.p-index l.params)
