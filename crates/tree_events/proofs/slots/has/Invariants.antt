use Rattle.std.proofs.Common.{◌≡◌, drop}
use Rattle.tree_events.specs.Occurrences.{contains}
use Rattle.tree_events.proofs.slots.has.Given as goal

abbrev pub invariant-loop-s : goal.invariant-loop-s
invariant-loop-s l = contains l.slot l.list ≡ contains l.slot (drop l.s-index l.list)
