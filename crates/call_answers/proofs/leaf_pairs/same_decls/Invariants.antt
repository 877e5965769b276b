use Rattle.std.proofs.Common.{drop}
use Rattle.call_meaning.specs.Alike.{Slots}
use Rattle.moved_slots.specs.Moved.{slots_by}
use Rattle.call_answers.specs.declared.walking.Spot.{Spot}
use Rattle.call_answers.specs.Walking.{DeclsBecome, rules_of}
use Rattle.call_answers.proofs.leaf_pairs.same_decls.Given as goal

abbrev pub invariant-loop-i : goal.invariant-loop-i
invariant-loop-i l = (wide : Slots) (q : Spot) → DeclsBecome (rules_of l.w) (slots_by l.slots) l.spot (drop l.i l.decls) (drop l.i l.others) wide q → DeclsBecome (rules_of l.w) (slots_by l.pairs) l.fn.p l.decls l.others wide q
