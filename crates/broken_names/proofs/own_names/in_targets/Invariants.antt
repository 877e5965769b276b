use Rattle.broken_names.proofs.own_names.in_targets.Given as goal

abbrev pub invariant-loop-t : goal.invariant-loop-t
invariant-loop-t l = Unit {0}
