use Rattle.std.proofs.Common.{drop, length}
use Rattle.call_meaning.specs.Untails.{moves_slots}
use Rattle.call_answers.specs.Walking.{typed}
use Rattle.call_answers.proofs.turns.moves_stand.Given as goal

abbrev pub invariant-loop-i : goal.invariant-loop-i
invariant-loop-i l = moves_slots (typed l.w) (length (drop l.i l.xs)) l.i l.slot (drop l.i l.xs) → moves_slots (typed l.w) (length l.xs) 0 l.from l.xs
