use Rattle.std.proofs.Common.{pos}
use Rattle.std.proofs.lemmas.Result.{err_from_is_err_and}
use Rattle.away_values.specs.declared.values.Value.TheVariants as val
use Rattle.away_values.specs.declared.operators.CmpOp.TheVariants as cmp
use Rattle.away_values.specs.Operators.{compare, is_true}
use Rattle.plsql_meaning.specs.Statements.{with_bound, judged}
use Rattle.plsql_run.specs.Settings.{meant}
use Rattle.plsql_run.proofs.Passing.{passes_then}
use Rattle.plsql_run.proofs.counting.step.Goals as goal

pub returns-in_err-bound-in-Some : goal.returns-in_err-bound-in-Some
returns-in_err-bound-in-Some c =
    let p = err_from_is_err_and c.from_residual.result c.from_residual.ensures.1 in
    let set = meant c.args.setting.now in
    rw (p.1, p.2, c.in-Some.is) (λ go. c.in_err-bound-in-Some.ensures (λ v. judged (is_true (compare cmp.Le v (val.Int (pos 0)))) v go))

pub returns-in_ok-bound-in-Some : goal.returns-in_ok-bound-in-Some
returns-in_ok-bound-in-Some c =
    let set = meant c.args.setting.now in
    let env = c.args.env.now in
    rw c.in-Some.is (passes_then (with_bound (set.value c.in-Some.e env)) (λ go v. judged (is_true (compare cmp.Le v (val.Int (pos 0)))) v go) env c.in_ok-bound-in-Some.field-0 c.positive.result c.in_ok-bound-in-Some.ensures (c.positive.ensures env))
