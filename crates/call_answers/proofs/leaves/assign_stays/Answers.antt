use Rattle.std.proofs.Common.{refl}
use Rattle.call_answers.proofs.LeafRules.{assign_rule}
use Rattle.call_answers.proofs.leaves.assign_stays.Goals as goal

pub returns-then-same_slot : goal.returns-then-same_slot
returns-then-same_slot c = λ yes name. assign_rule c.args.w.now c.args.c.now c.args.label.now name c.in-Assign.field-0 c.args.slot.now c.in-Assign.other c.in-Some-Some.i c.in-Some-Some.j c.args.e.now c.in-Assign.y c.args.x.now
    c.as_slice-pairs.result.now c.as_slice-pairs.ensures c.in-Some-Some.is-0 c.in-Assign.is c.in-Some-Some.is-1 c.in-Nobody.ensures (c.if-same_slot.ensures refl) (c.same_expr.ensures yes)
