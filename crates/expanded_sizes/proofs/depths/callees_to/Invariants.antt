use Rattle.expanded_sizes.specs.Walking.{AreDepths}
use Rattle.expanded_sizes.proofs.depths.callees_to.Given as goal

abbrev pub invariant-loop-d : goal.invariant-loop-d
invariant-loop-d l = AreDepths l.fs l.d l.all
