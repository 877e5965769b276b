use Rattle.cte_reads.proofs.PlacedInOrder.{PlacedTo}
use Rattle.cte_reads.proofs.lets.placed.Given as goal

abbrev pub invariant-loop-i : goal.invariant-loop-i
invariant-loop-i l = PlacedTo l.out l.slots l.refs l.events l.initial.at l.of l.i l.at l.depth
