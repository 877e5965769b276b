use Rattle.inline_calls.proofs.Marking.{Spreading, unmarked}
use Rattle.inline_calls.proofs.fails.spread.Given as goal

abbrev pub invariant-loop-b : goal.invariant-loop-b
invariant-loop-b l = Spreading l.blocks l.initial.marks l.marks

abbrev pub decreases-loop-b : goal.decreases-loop-b
decreases-loop-b l = unmarked l.marks
