use Rattle.std.proofs.Common.{◌≡◌, ◌++◌, drop}
use Rattle.inline_calls.proofs.parting.copied_exprs.Given as goal

abbrev pub invariant-loop-e : goal.invariant-loop-e
invariant-loop-e l = l.done ++ drop l.e-index l.es ≡ l.es
