use Rattle.std.proofs.Common.{arith, IfSome, subst, sym}
use Rattle.call_answers.specs.Calling.{EndsWith}
use Rattle.call_answers.proofs.CallLists.{no_slot_test, no_test, one_test}
use Rattle.call_meaning.specs.Expands.{slots_from}
use Rattle.call_answers.proofs.ends.body_place.Goals as goal

pub returns-then-not-strict : goal.returns-then-not-strict
returns-then-not-strict c = subst (λ front. IfSome c.alone.result (λ k. EndsWith front c.args.xs.now k)) (sym (no_test c.args.strict c.args.label.now (slots_from c.args.n c.args.from) c.if-not-strict.true)) c.alone.ensures

pub returns-then-n-eq0 : goal.returns-then-n-eq0
returns-then-n-eq0 c = subst (λ front. IfSome c.alone-then-n-eq0.result (λ k. EndsWith front c.args.xs.now k)) (sym (no_slot_test c.args.strict c.args.n c.args.from c.args.label.now c.if-n-eq0.true)) c.alone-then-n-eq0.ensures

pub returns : goal.returns
returns c = subst (λ front. IfSome c.tested.result (λ k. EndsWith front c.args.xs.now k)) (sym (one_test c.args.strict c.args.n c.args.from c.args.label.now c.if-not-strict.false (omega (arith, c.if-n-eq0.false)))) c.tested.ensures
