use Rattle.std.proofs.Common.{◌≡◌, take}
use Rattle.away_values.proofs.copy_values.copy_row.Given as goal

abbrev pub invariant-loop-i : goal.invariant-loop-i
invariant-loop-i l = l.all ≡ take l.i l.list
