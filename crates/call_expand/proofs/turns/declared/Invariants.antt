use Rattle.std.proofs.Common.{◌≡◌, ◌++◌, drop}
use Rattle.call_expand.specs.Untailing.{declared}
use Rattle.call_expand.proofs.turns.declared.Given as goal

abbrev pub invariant-loop-p : goal.invariant-loop-p
invariant-loop-p l = l.all ++ declared l.names l.at (drop l.p-index l.params) ≡ declared l.names l.k l.params
