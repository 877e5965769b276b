use Rattle.std.proofs.Common.{◌≡◌, IfOk, subst}
use Rattle.call_expand.proofs.JudgingRules.{call_is}
use Rattle.call_expand.proofs.judged.judged_place.Goals as goal

pub returns-then-p-fs : goal.returns-then-p-fs
returns-then-p-fs c = subst (λ y. IfOk c.judged_call.result (λ x. x ≡ y)) (call_is c.in-All.fs c.args.e.now c.args.c c.call_place.result c.in-Some.p c.index-fs-p.result c.in-All.is c.call_place.ensures c.in-Some.is c.if-p-fs.true c.index-fs-p.is) c.judged_call.ensures
