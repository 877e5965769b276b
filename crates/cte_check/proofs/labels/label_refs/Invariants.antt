use Rattle.std.proofs.Common.{◌≡◌, ◌++◌, drop}
use Rattle.cte_check.specs.Labels.{label_refs}
use Rattle.cte_check.proofs.labels.label_refs.Given as goal

abbrev pub invariant-loop-i : goal.invariant-loop-i
invariant-loop-i l = l.refs ++ label_refs (drop l.i l.params) (drop l.i l.places) ≡ label_refs l.params l.places
