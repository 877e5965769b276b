use Rattle.std.proofs.Common.{◌≡◌, ◌++◌, drop}
use Rattle.tail_rec.specs.Walk.{labels_among}
use Rattle.tail_rec.proofs.labels.labels_among.Given as goal

abbrev pub invariant-loop-found : goal.invariant-loop-found
invariant-loop-found l = l.labels ++ labels_among (drop l.found-index l.reached) ≡ labels_among l.reached
