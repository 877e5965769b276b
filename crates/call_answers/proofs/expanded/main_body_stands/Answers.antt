use Rattle.std.proofs.Common.{IfSome, ap, length, subst}
use Rattle.call_answers.specs.Walking.{StmtBecomes, rules_of}
use Rattle.call_answers.proofs.PartRules.{main_rule}
use Rattle.call_answers.proofs.expanded.main_body_stands.Goals as goal

pub returns : goal.returns
returns c = λ q. main_rule c.args.w.now c.args.x.now (length c.as_slice-params.result.now) c.in_ok-c.c c.in-Some.p c.in-Some-2.field-0 (ap length c.as_slice-params.ensures) c.in-Some.ensures.at c.in-Some.ensures.new c.in_ok-c.ensures
    (subst (λ r. IfSome r (StmtBecomes (rules_of c.args.w.now) c.in_ok-c.c c.in-Some.p c.args.w.now.body.now c.args.x.now)) c.in-Some-2.is c.in_ok-stmt_becomes.ensures)
