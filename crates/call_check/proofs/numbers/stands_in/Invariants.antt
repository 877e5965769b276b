use Rattle.std.proofs.Common.{◌≡◌}
use Rattle.call_check.proofs.Seeking.{NoneBelow}
use Rattle.call_check.proofs.numbers.stands_in.Given as goal

abbrev pub invariant-loop-m : goal.invariant-loop-m
invariant-loop-m l = NoneBelow (λ m. m ≡ l.n) l.numbers l.m-index
