use Rattle.std.proofs.Common.{arith, ◌≡◌, subst, sym, ap, ◌∙◌, ◌++◌, replicate, length, if◌then◌else◌}
use Rattle.away_values.specs.declared.values.Value.TheVariants as val
use Rattle.away_values.specs.declared.values.Answer.TheVariants as answer
use Rattle.plsql_meaning.specs.Functions.{answer_of}
use Rattle.plsql_meaning.specs.Statements.{meaning}
use Rattle.plsql_meaning.proofs.Slots.{takes}
use Rattle.plsql_run.specs.Continues.{Fails}
use Rattle.plsql_run.specs.Layouts.{slots}
use Rattle.plsql_run.proofs.Layouts.{slots_are}
use Rattle.plsql_run.specs.Settings.{meant}
use Rattle.plsql_run.proofs.function.run_over.Goals as goal

pub returns-in-Ok : goal.returns-in-Ok
returns-in-Ok c =
    let set = meant c.args.setting.now in
    let body = c.args.f.now.body in
    let args = c.args.args.now in
    let n = c.args.bound in
    let vars : slots c.in_ok-layout.layout ≡ (meaning set body).vars = ap slots c.in_ok-layout.ensures ∙ slots_are body ∙ sym (takes set body) in
    let runs = (meaning set body).run in
    c.in-Ok.ensures
    ∙ (λ i. answer_of (runs (c.len-2.ensures i) (c.in_ok-env.ensures i) n).outcome)
    ∙ ap (λ k. answer_of (runs (length c.args.f.now.params) (args ++ replicate k val.Null) n).outcome) vars
    ∙ ap (λ b. if b then answer.Value val.Null else answer_of (runs (length c.args.f.now.params) (args ++ replicate (meaning set body).vars val.Null) n).outcome) (sym (sym c.is_null_for.ensures ∙ c.if-is_null_for.false))

pub returns-in-Err-Class : goal.returns-in-Err-Class
returns-in-Err-Class c =
    let set = meant c.args.setting.now in
    let body = c.args.f.now.body in
    let args = c.args.args.now in
    let n = c.args.bound in
    let vars : slots c.in_ok-layout.layout ≡ (meaning set body).vars = ap slots c.in_ok-layout.ensures ∙ slots_are body ∙ sym (takes set body) in
    let runs = (meaning set body).run in
    let fails = subst (λ e. Fails (λ k. runs c.len-2.result c.in_ok-env.env n) e) c.in-Err-Class.field-0-is c.in-Err-Class.ensures in
    ap answer_of (sym (fails n))
    ∙ (λ i. answer_of (runs (c.len-2.ensures i) (c.in_ok-env.ensures i) n).outcome)
    ∙ ap (λ k. answer_of (runs (length c.args.f.now.params) (args ++ replicate k val.Null) n).outcome) vars
    ∙ ap (λ b. if b then answer.Value val.Null else answer_of (runs (length c.args.f.now.params) (args ++ replicate (meaning set body).vars val.Null) n).outcome) (sym (sym c.is_null_for.ensures ∙ c.if-is_null_for.false))

pub run_body-requires-clause-few : goal.run_body-requires-clause-few
run_body-requires-clause-few c = omega (arith, c.in_ok-plus.ensures.value, c.in_ok-plus.ensures.fits, c.len.ensures, c.len-2.ensures, ap slots c.in_ok-layout.ensures ∙ slots_are c.args.f.now.body)
