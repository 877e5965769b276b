use Rattle.program_check.specs.Firsts.{Nowhere}
use Rattle.program_check.specs.Refusing.{Taken}
use Rattle.program_check.proofs.names.first_taken.Given as goal

abbrev pub invariant-loop-k : goal.invariant-loop-k
invariant-loop-k l = Nowhere (Taken l.fs) l.k
