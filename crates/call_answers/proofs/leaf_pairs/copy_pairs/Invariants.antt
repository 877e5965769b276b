use Rattle.std.proofs.Common.{◌≡◌, take}
use Rattle.call_answers.proofs.leaf_pairs.copy_pairs.Given as goal

abbrev pub invariant-loop-p : goal.invariant-loop-p
invariant-loop-p l = l.all ≡ take l.p-index l.list
