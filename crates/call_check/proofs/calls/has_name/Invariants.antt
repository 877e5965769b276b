use Rattle.std.proofs.Common.{◌≡◌}
use Rattle.call_check.proofs.Seeking.{NoneBelow}
use Rattle.call_check.proofs.calls.has_name.Given as goal

abbrev pub invariant-loop-pair : goal.invariant-loop-pair
invariant-loop-pair l = NoneBelow (λ p. p.1 ≡ l.n) l.pair-items l.pair-index
