use Rattle.std.proofs.Common.{◌≡◌, take}
use Rattle.elaboration.proofs.converting.copy_targets.Given as goal

abbrev pub invariant-loop-i : goal.invariant-loop-i
invariant-loop-i l = l.done ≡ take l.i l.targets
