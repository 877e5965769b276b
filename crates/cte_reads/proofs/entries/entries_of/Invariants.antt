use Rattle.cte_reads.proofs.EntriesInOrder.{ListedTo}
use Rattle.cte_reads.proofs.entries.entries_of.Given as goal

abbrev pub invariant-loop-i : goal.invariant-loop-i
invariant-loop-i l = ListedTo l.table.list l.i l.list
