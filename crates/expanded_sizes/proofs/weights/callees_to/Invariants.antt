use Rattle.expanded_sizes.specs.Weighing.{AreWeights}
use Rattle.expanded_sizes.proofs.weights.callees_to.Given as goal

abbrev pub invariant-loop-d : goal.invariant-loop-d
invariant-loop-d l = AreWeights l.w l.fs l.d l.all
