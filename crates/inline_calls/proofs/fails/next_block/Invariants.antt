use Rattle.inline_calls.proofs.Marking.{ClosedBelow}
use Rattle.inline_calls.proofs.fails.next_block.Given as goal

abbrev pub invariant-loop-b : goal.invariant-loop-b
invariant-loop-b l = ClosedBelow l.blocks l.marks l.b
