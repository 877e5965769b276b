use Rattle.std.proofs.Common.{drop}
use Rattle.call_meaning.specs.Becomes.{targets_become}
use Rattle.moved_slots.specs.Moved.{slots_by}
use Rattle.call_answers.specs.Walking.{rules_of}
use Rattle.call_answers.proofs.leaf_pairs.same_targets.Given as goal

abbrev pub invariant-loop-i : goal.invariant-loop-i
invariant-loop-i l = targets_become (rules_of l.w) (slots_by l.pairs) (drop l.i l.list) (drop l.i l.others) → targets_become (rules_of l.w) (slots_by l.pairs) l.list l.others
