use Rattle.program_check.specs.Firsts.{Nowhere}
use Rattle.program_check.specs.Refusing.{Misplaced}
use Rattle.program_check.proofs.names.first_misplaced.Given as goal

abbrev pub invariant-loop-k : goal.invariant-loop-k
invariant-loop-k l = Nowhere (Misplaced l.fs) l.k
