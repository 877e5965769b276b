use Rattle.std.proofs.Common.{◌≡◌, take}
use Rattle.call_answers.proofs.parts.copy_params.Given as goal

abbrev pub invariant-loop-i : goal.invariant-loop-i
invariant-loop-i l = l.all ≡ take l.i l.list
