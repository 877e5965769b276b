use Rattle.std.proofs.Common.{drop}
use Rattle.call_meaning.specs.Expands.{arguments_become}
use Rattle.call_meaning.specs.Renamed.{renaming}
use Rattle.moved_slots.specs.Moved.{slots_by}
use Rattle.call_answers.specs.Walking.{typed}
use Rattle.call_answers.proofs.calls.arguments_stand.Given as goal

abbrev pub invariant-loop-i : goal.invariant-loop-i
invariant-loop-i l = arguments_become renaming (typed l.w) (slots_by l.pairs) l.slot (drop l.i l.args) (drop l.i l.params) → arguments_become renaming (typed l.w) (slots_by l.pairs) l.from l.args l.params
