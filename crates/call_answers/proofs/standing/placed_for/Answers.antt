use Rattle.std.proofs.Common.{◌≡◌, IfOk, subst}
use Rattle.away_typing.specs.TypingLists.{places}
use Rattle.call_answers.proofs.PartRules.{placed_call_is}
use Rattle.call_answers.proofs.standing.placed_for.Goals as goal

pub returns-in_ok-call_made-in-Some : goal.returns-in_ok-call_made-in-Some
returns-in_ok-call_made-in-Some c = subst (λ y. IfOk c.for_type.result (λ x. x ≡ y)) (placed_call_is c.in-All.fs c.args.e.now c.args.t (places c.args.p.now) c.args.c c.call_place.result c.in-Some.place c.index-fs-place.result c.in_ok-call_made-in-Some.field-0 c.in-All.is c.call_place.ensures c.in-Some.is c.if-place-fs.true c.index-fs-place.is c.in_ok-call_made-in-Some.ensures) c.for_type.ensures
