use Rattle.std.proofs.Common.{◌≡◌, take}
use Rattle.broken_names.proofs.variables.copied.Given as goal

abbrev pub invariant-loop-i : goal.invariant-loop-i
invariant-loop-i l = l.all ≡ take l.i l.variables
