use Rattle.std.proofs.Common.{◌≡◌, ◌++◌, drop}
use Rattle.call_expand.proofs.seeing.copy_variables.Given as goal

abbrev pub invariant-loop-v : goal.invariant-loop-v
invariant-loop-v l = l.all ++ drop l.v-index l.list ≡ l.list
