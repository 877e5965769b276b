use Rattle.std.proofs.Common.{◌≡◌, ◌++◌, drop}
use Rattle.call_expand.specs.Moving.{moved_params}
use Rattle.call_expand.proofs.heads.moved_params.Given as goal

abbrev pub invariant-loop-p : goal.invariant-loop-p
invariant-loop-p l = l.all ++ moved_params l.names l.at (drop l.p-index l.params) ≡ moved_params l.names 0 l.params
