use Rattle.program_check.specs.Firsts.{Nowhere}
use Rattle.program_check.specs.Reaching.{Due}
use Rattle.program_check.proofs.reaching.first_due.Given as goal

abbrev pub invariant-loop-g : goal.invariant-loop-g
invariant-loop-g l = Nowhere (Due l.table l.marks) l.g
