use Rattle.std.proofs.Common.{sym, ap, ◌∙◌}
use Rattle.std.proofs.lemmas.Result.{err_from_is_err_and}
use Rattle.plsql_meaning.specs.Outcomes.{close, and_then, done, normal}
use Rattle.plsql_meaning.specs.Statements.{declare}
use Rattle.plsql_run.specs.declared.frames.Frame.TheVariants as frame
use Rattle.plsql_run.specs.Continues.{body_of, resumed, unwound}
use Rattle.plsql_run.specs.Settings.{meant}
use Rattle.plsql_run.proofs.Unwound.{unwound_on, fails_under, fails_resumed}
use Rattle.plsql_run.proofs.enter.enter_block.Goals as goal

pub returns-in_err-declare-clause-runs : goal.returns-in_err-declare-clause-runs
returns-in_err-declare-clause-runs c =
    let p = err_from_is_err_and c.from_residual.result c.from_residual.ensures.1 in
    let set = meant c.args.setting.now in
    let place = c.args.body in
    let step = declare set c.args.decls.now c.args.at c.args.env.now in
    let e = c.in_err-declare.field-0.0 in
    rw (p.1, p.2) (fails_under set c.args.stack.now (λ n. resumed set (frame.Block c.args.label) (resumed set (frame.Rest place) (step n))) e
    (fails_resumed set (frame.Block c.args.label) (λ n. resumed set (frame.Rest place) (step n)) e
    (fails_resumed set (frame.Rest place) step e c.in_err-declare.ensures)))

pub returns-clause-runs : goal.returns-clause-runs
returns-clause-runs c =
    let set = meant c.args.setting.now in
    let place = c.args.body in
    λ n. unwound_on set c.push.new.self c.push-2.new.self (frame.Rest place) c.in_ok-push-2.ensures.ok (done normal c.declare.new.env n)
    ∙ unwound_on set c.args.stack.now c.push.new.self (frame.Block c.args.label) c.in_ok-push.ensures.ok (body_of set place c.declare.new.env n)
    ∙ ap (λ d. unwound set c.args.stack.now (close c.args.label.now (and_then d (body_of set place)))) (sym (c.in_ok-declare.ensures n))
