use Rattle.call_check.proofs.Counting.{Zeros}
use Rattle.call_check.proofs.labels.no_counts.Given as goal

abbrev pub invariant-loop-number : goal.invariant-loop-number
invariant-loop-number l = Zeros l._number l.table.items
