use Rattle.std.proofs.Common.{◌≡◌, ◌++◌, drop}
use Rattle.call_expand.proofs.judged.copy_params.Given as goal

abbrev pub invariant-loop-p : goal.invariant-loop-p
invariant-loop-p l = l.all ++ drop l.p-index l.list ≡ l.list
