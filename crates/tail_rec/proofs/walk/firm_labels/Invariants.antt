use Rattle.std.proofs.Common.{◌≡◌}
use Rattle.tail_rec.specs.Callers.{is_firm}
use Rattle.tail_rec.specs.Walk.{firm_labels}
use Rattle.tail_rec.proofs.walk.firm_labels.Given as goal

abbrev pub invariant-loop-at : goal.invariant-loop-at
invariant-loop-at l = l.reached.items ≡ firm_labels (is_firm l.goto l.callers) l.at
