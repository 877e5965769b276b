use Rattle.std.proofs.Common.{drop}
use Rattle.away_types.specs.TypedSlots.{typed_slots}
use Rattle.call_meaning.specs.Untails.{plain_decls}
use Rattle.call_answers.proofs.related.are_plain.Given as goal

abbrev pub invariant-loop-d : goal.invariant-loop-d
invariant-loop-d l = plain_decls (typed_slots l.slots) l.slot (drop l.d-index l.list) → plain_decls (typed_slots l.slots) l.from l.list
