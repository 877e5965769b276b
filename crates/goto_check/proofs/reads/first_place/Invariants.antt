use Rattle.std.proofs.Common.{◌≡◌, ◌+◌, drop}
use Rattle.goto_check.specs.Passing.{first_place}
use Rattle.goto_check.proofs.reads.first_place.Given as goal

abbrev pub invariant-loop-i : goal.invariant-loop-i
invariant-loop-i l = first_place l.names l.slot ≡ l.i + first_place (drop l.i l.names) l.slot
