use Rattle.program_check.specs.Firsts.{Nowhere}
use Rattle.program_check.specs.Reaching.{Recurs}
use Rattle.program_check.proofs.reaching.first_recursive.Given as goal

abbrev pub invariant-loop-k : goal.invariant-loop-k
invariant-loop-k l = Nowhere (Recurs l.fs) l.k
