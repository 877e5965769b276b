use Rattle.std.proofs.Common.{drop}
use Rattle.call_check.specs.Counts.{times}
use Rattle.call_check.proofs.Counting.{Counting}
use Rattle.call_check.proofs.labels.label_counts.Given as goal

abbrev pub invariant-loop-label : goal.invariant-loop-label
invariant-loop-label l = Counting l.blocks (times l.labels) (times (drop l.label-index l.labels)) l.table.items
