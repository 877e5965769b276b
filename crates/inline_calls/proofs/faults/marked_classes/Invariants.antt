use Rattle.inline_calls.specs.MarkedFaults.{AreMarkedBelow}
use Rattle.inline_calls.proofs.faults.marked_classes.Given as goal

abbrev pub invariant-loop-b : goal.invariant-loop-b
invariant-loop-b l = AreMarkedBelow l.blocks l.marks l.b l.classes.items
