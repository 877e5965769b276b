use Rattle.std.proofs.Common.{◌≡◌, drop}
use Rattle.call_meaning.specs.Marks.{marks}
use Rattle.call_answers.proofs.leaf_pairs.same_marks.Given as goal

abbrev pub invariant-loop-i : goal.invariant-loop-i
invariant-loop-i l = marks (drop l.i l.list) ≡ marks (drop l.i l.others) → marks l.list ≡ marks l.others
