use Rattle.std.proofs.Common.{◌≡◌, take}
use Rattle.turn_terms.proofs.references.copied.Given as goal

abbrev pub invariant-loop-i : goal.invariant-loop-i
invariant-loop-i l = l.list ≡ take l.i l.refs
