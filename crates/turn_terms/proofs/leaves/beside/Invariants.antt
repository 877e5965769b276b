use Rattle.std.proofs.Common.{◌≡◌, drop}
use Rattle.turn_terms.specs.Placing.{beside}
use Rattle.turn_terms.proofs.leaves.beside.Given as goal

abbrev pub invariant-loop-i : goal.invariant-loop-i
invariant-loop-i l = beside l.slots l.names l.slot ≡ beside (drop l.i l.slots) (drop l.i l.names) l.slot
