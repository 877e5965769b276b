use Rattle.std.proofs.Common.{sym, ap, ◌∙◌}
use Rattle.std.proofs.lemmas.Result.{err_from_is_err_and}
use Rattle.away_values.specs.declared.values.Value.{Value}
use Rattle.plsql_meaning.specs.Outcomes.{Step}
use Rattle.plsql_meaning.specs.Loops.{turning, counts}
use Rattle.plsql_meaning.specs.Statements.{with_bound, with_step}
use Rattle.plsql_run.specs.Settings.{meant}
use Rattle.plsql_run.specs.Continues.{body_of, unwound}
use Rattle.plsql_run.proofs.Unwound.{fails_under, goes_as}
use Rattle.plsql_run.proofs.Passing.{fails_like}
use Rattle.plsql_run.proofs.counting.enter_count.Goals as goal

pub returns-in_err-from-clause-runs : goal.returns-in_err-from-clause-runs
returns-in_err-from-clause-runs c = λ name.
    let p = err_from_is_err_and c.from_residual.result c.from_residual.ensures.1 in
    let set = meant c.args.setting.now in
    let body : Step = body_of set c.args.body in
    let third : Value → Value → Value → Step = λ a b s. turning (counts c.args.reverse b s c.args.var) c.args.label.now body a in
    let second : Value → Step = λ a env n. with_bound (set.value c.args.last.now env) (λ b. with_step set c.args.by.now (third a b)) env n in
    let now = c.args.env.now in
    let e = c.in_err-from.field-0.0 in
    rw (p.1, p.2) (fails_under set c.args.stack.now (with_bound (set.value c.args.first.now now) second now) e
    (c.in_err-from.ensures second))

pub returns-in_err-to-clause-runs : goal.returns-in_err-to-clause-runs
returns-in_err-to-clause-runs c = λ name.
    let p = err_from_is_err_and c.from_residual-in_err-to.result c.from_residual-in_err-to.ensures.1 in
    let set = meant c.args.setting.now in
    let body : Step = body_of set c.args.body in
    let third : Value → Value → Value → Step = λ a b s. turning (counts c.args.reverse b s c.args.var) c.args.label.now body a in
    let second : Value → Step = λ a env n. with_bound (set.value c.args.last.now env) (λ b. with_step set c.args.by.now (third a b)) env n in
    let now = c.args.env.now in
    let a = c.in_ok-from.from in
    let e = c.in_err-to.field-0.0 in
    rw (p.1, p.2) (fails_under set c.args.stack.now (with_bound (set.value c.args.first.now now) second now) e
    (fails_like (with_bound (set.value c.args.first.now now) second now) (second a now) e (c.in_ok-from.ensures second) (c.in_err-to.ensures (λ b. with_step set c.args.by.now (third a b)))))

pub returns-in_err-step-clause-runs : goal.returns-in_err-step-clause-runs
returns-in_err-step-clause-runs c = λ name.
    let p = err_from_is_err_and c.from_residual-in_err-step.result c.from_residual-in_err-step.ensures.1 in
    let set = meant c.args.setting.now in
    let body : Step = body_of set c.args.body in
    let third : Value → Value → Value → Step = λ a b s. turning (counts c.args.reverse b s c.args.var) c.args.label.now body a in
    let second : Value → Step = λ a env n. with_bound (set.value c.args.last.now env) (λ b. with_step set c.args.by.now (third a b)) env n in
    let now = c.args.env.now in
    let a = c.in_ok-from.from in
    let b = c.in_ok-to.to in
    let e = c.in_err-step.field-0.0 in
    rw (p.1, p.2) (fails_under set c.args.stack.now (with_bound (set.value c.args.first.now now) second now) e
    (fails_like (with_bound (set.value c.args.first.now now) second now) (with_step set c.args.by.now (third a b) now) e
    (λ n. c.in_ok-from.ensures second n ∙ c.in_ok-to.ensures (λ b. with_step set c.args.by.now (third a b)) n) (c.in_err-step.ensures (third a b))))

pub returns-clause-runs : goal.returns-clause-runs
returns-clause-runs c = λ name.
    let set = meant c.args.setting.now in
    let body : Step = body_of set c.args.body in
    let third : Value → Value → Value → Step = λ a b s. turning (counts c.args.reverse b s c.args.var) c.args.label.now body a in
    let second : Value → Step = λ a env n. with_bound (set.value c.args.last.now env) (λ b. with_step set c.args.by.now (third a b)) env n in
    let now = c.args.env.now in
    let a = c.in_ok-from.from in
    let b = c.in_ok-to.to in
    let s = c.in_ok-step.step in
    goes_as set c.begin_count.new.stack c.begin_count.new.env c.begin_count.result
    (λ n. ap (unwound set c.args.stack.now) (sym (c.in_ok-from.ensures second n ∙ c.in_ok-to.ensures (λ b. with_step set c.args.by.now (third a b)) n ∙ c.in_ok-step.ensures (third a b) n)))
    (c.begin_count.ensures.runs set)
