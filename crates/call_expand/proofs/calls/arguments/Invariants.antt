use Rattle.std.proofs.Common.{◌≡◌, ◌++◌, drop}
use Rattle.call_expand.specs.Expanding.{arguments}
use Rattle.call_expand.proofs.calls.arguments.Given as goal

abbrev pub invariant-loop-p : goal.invariant-loop-p
invariant-loop-p l = l.all ++ arguments l.names l.seen l.at (drop l.p-index l.params) l.rest ≡ arguments l.names l.seen l.k l.params l.args
