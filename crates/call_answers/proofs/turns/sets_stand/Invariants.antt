use Rattle.std.proofs.Common.{drop}
use Rattle.call_meaning.specs.Renamed.{renaming}
use Rattle.call_meaning.specs.Untails.{sets_arguments}
use Rattle.moved_slots.specs.Moved.{slots_by}
use Rattle.call_answers.specs.Walking.{typed}
use Rattle.call_answers.proofs.turns.sets_stand.Given as goal

abbrev pub invariant-loop-i : goal.invariant-loop-i
invariant-loop-i l = sets_arguments renaming (typed l.w) (slots_by l.pairs) l.slot (drop l.i l.args) (drop l.i l.xs) → sets_arguments renaming (typed l.w) (slots_by l.pairs) l.from l.args l.xs
