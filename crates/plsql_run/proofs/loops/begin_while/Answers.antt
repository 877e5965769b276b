use Rattle.std.proofs.Common.{sym, ap, ◌∙◌}
use Rattle.std.proofs.lemmas.Result.{err_from_is_err_and}
use Rattle.plsql_meaning.specs.Loops.{taken, turning, while}
use Rattle.plsql_run.specs.declared.frames.Frame.TheVariants as frame
use Rattle.plsql_run.specs.Continues.{body_of, resumed, unwound}
use Rattle.plsql_run.specs.Settings.{meant}
use Rattle.plsql_run.proofs.Unwound.{while_turn, while_fails, fails_as, goes_as}
use Rattle.plsql_run.proofs.loops.begin_while.Goals as goal

pub returns-in_err-v-clause-runs : goal.returns-in_err-v-clause-runs
returns-in_err-v-clause-runs c =
    let p = err_from_is_err_and c.from_residual.result c.from_residual.ensures.1 in
    let test = (meant c.args.setting.now).value c.args.test.now in
    let set = meant c.args.setting.now in rw (p.1, p.2) (fails_as (λ n. unwound set c.args.stack.now (turning (while test) c.args.label.now (body_of set c.args.body) tt c.args.env.now n)) (test c.args.env.now) c.in_err-v.field-0.0 c.in_err-v.ensures (while_fails set c.args.stack.now c.args.label.now test c.args.body c.args.env.now))

pub returns-clause-runs : goal.returns-clause-runs
returns-clause-runs c =
    let set = meant c.args.setting.now in
    let test = (meant c.args.setting.now).value c.args.test.now in
    let env = c.args.env.now in
    goes_as set c.begin.new.stack env c.begin.result
    (λ n. ap (unwound set c.args.stack.now) (ap (λ p. taken env n (λ e m. resumed set (frame.While c.args.label c.args.test c.args.body) (body_of set p e m))) c.again-first.ensures ∙ while_turn set c.args.label.now test c.args.body env c.in_ok-v.v c.in_ok-v.ensures (sym c.is_true.ensures ∙ c.if-not-is_true.false) n))
    (c.begin.ensures.runs set env)
