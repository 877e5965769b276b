use Rattle.std.proofs.Common.{refl, subst}
use Rattle.moved_slots.specs.Moved.{slots_by}
use Rattle.call_answers.specs.Calling.{GoesOn}
use Rattle.call_answers.proofs.BecomingRules.{some_of}
use Rattle.call_answers.proofs.calls.ends_call.Goals as goal

pub returns-in-Some : goal.returns-in-Some
returns-in-Some c = λ yes. record {
  result = c.if-not-is_result.ensures refl;
  goes = subst (λ v. GoesOn c.args.w.now c.args.g.now.expansion.left (slots_by c.args.pairs.now) c.args.g.now.to v c.args.tail.now) (c.is_kept.ensures yes) (some_of _ _ _ c.in-Some.is c.goes_on.ensures);
}
