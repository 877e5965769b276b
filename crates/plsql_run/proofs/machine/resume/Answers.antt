use Rattle.std.proofs.Common.{sym, ap, ◌∙◌, Some, Ok}
use Rattle.plsql_meaning.specs.Loops.{always, ended, turning}
use Rattle.plsql_meaning.specs.Outcomes.{done}
use Rattle.plsql_run.specs.Continues.{body_of, count_of, outcome, resumed, told, unwound}
use Rattle.plsql_run.specs.Settings.{meant}
use Rattle.plsql_run.proofs.Unwound.{goes_as}
use Rattle.plsql_run.proofs.machine.resume.Goals as goal

pub returns-in-Plain-clause-runs : goal.returns-in-Plain-clause-runs
returns-in-Plain-clause-runs c =
    let set = meant c.args.setting.now in
    let fs = c.args.stack.now in
    let env = c.args.env.now in
    let go = turning always c.in-Plain.label.now (body_of set c.in-Plain.body) in
    goes_as set c.begin_plain.new.stack env c.begin_plain.result
    (λ n. ap (λ v. unwound set fs (ended v (Ok (Some tt)) go env n)) (sym (ap told c.in-None.is) ∙ c.verdict.ensures)
    ∙ ap (λ f. unwound set fs (resumed set f (done (outcome c.args.way) env n))) (sym c.in-Plain.is))
    (c.begin_plain.ensures.runs set env)

pub returns-clause-runs : goal.returns-clause-runs
returns-clause-runs c =
    let set = meant c.args.setting.now in
    let fs = c.args.stack.now in
    let env = c.args.env.now in
    let k = c.in-Count.counting in
    let go = turning (count_of k) k.label.now (body_of set k.body) in
    goes_as set c.resume_count.new.stack c.resume_count.new.env c.resume_count.result
    (λ n. ap (λ v. unwound set fs (ended v ((count_of k).next c.in-Count.counter) go env n)) (sym (ap told c.in-None-verdict-2.is) ∙ c.verdict-in-Count.ensures)
    ∙ ap (λ f. unwound set fs (resumed set f (done (outcome c.args.way) env n))) (sym c.in-Count.is))
    (c.resume_count.ensures.runs set)
