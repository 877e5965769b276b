use Rattle.program_check.proofs.Marking.{Spreading, unmarked}
use Rattle.program_check.proofs.reaching.spread.Given as goal

abbrev pub invariant-loop-g : goal.invariant-loop-g
invariant-loop-g l = Spreading l.table l.initial.marks l.marks

abbrev pub decreases-loop-g : goal.decreases-loop-g
decreases-loop-g l = unmarked l.marks
