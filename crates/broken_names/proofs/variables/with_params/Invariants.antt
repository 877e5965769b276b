use Rattle.std.proofs.Common.{◌≡◌, [], take}
use Rattle.broken_names.specs.StatementCulprits.{with_params}
use Rattle.broken_names.proofs.variables.with_params.Given as goal

abbrev pub invariant-loop-p : goal.invariant-loop-p
invariant-loop-p l = l.all ≡ with_params [] (take l.p-index l.params)
