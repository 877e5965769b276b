use Rattle.std.proofs.Common.{◌≡◌, sym, ◌∙◌, subst, ℕ, Ok, Err}
use Rattle.std.proofs.lemmas.Result.{err_from_is_err_and}
use Rattle.plsql_meaning.specs.Outcomes.{Done, done}
use Rattle.plsql_run.specs.declared.frames.Signal.TheVariants as signal
use Rattle.plsql_run.specs.Settings.{meant}
use Rattle.plsql_run.specs.Continues.{Goes, resumed, unwound, outcome}
use Rattle.plsql_run.proofs.Unwound.{unwound_on, goes_as}
use Rattle.plsql_run.proofs.machine.run_until_turn.Goals as goal

pub returns-in_err-next-clause-runs : goal.returns-in_err-next-clause-runs
returns-in_err-next-clause-runs c =
    let p = err_from_is_err_and c.from_residual.result c.from_residual.ensures.1 in
    let set = meant c.args.setting.now in
    let part : ℕ → Done = λ n. unwound set c.pop.new.self (resumed set c.in-Some.frame (done (outcome c.frames.way) c.frames.env n)) in
    let whole : ℕ → Done = λ n. unwound set c.args.stack.now (done (outcome c.args.way) c.args.env.now n) in
    let same : (n : ℕ) → part n ≡ whole n = λ n. sym (unwound_on set c.pop.new.self c.frames.stack c.in-Some.frame c.in-Some.ensures (done (outcome c.frames.way) c.frames.env n)) ∙ c.frames.invariant n in
    let stack = c.resume.new.stack in
    let env = c.resume.new.env in
    rw (p.1, p.2) (goes_as set stack env (Err c.in_err-next.field-0.0) same c.in_err-next.ensures.runs)

pub frames-preserved : goal.frames-preserved
frames-preserved c =
    let set = meant c.args.setting.now in
    let part : ℕ → Done = λ n. unwound set c.pop.new.self (resumed set c.in-Some.frame (done (outcome c.frames.way) c.frames.env n)) in
    let whole : ℕ → Done = λ n. unwound set c.args.stack.now (done (outcome c.args.way) c.args.env.now n) in
    let same : (n : ℕ) → part n ≡ whole n = λ n. sym (unwound_on set c.pop.new.self c.frames.stack c.in-Some.frame c.in-Some.ensures (done (outcome c.frames.way) c.frames.env n)) ∙ c.frames.invariant n in
    let stack = c.resume.new.stack in
    let env = c.resume.new.env in
    goes_as set stack env (Ok (signal.Ends c.in-Ends.next)) same (subst (λ r. Goes set part stack env (Ok r)) c.in-Ends.is c.in_ok-next.ensures.runs)

pub returns-in-Returns-clause-runs : goal.returns-in-Returns-clause-runs
returns-in-Returns-clause-runs c =
    let set = meant c.args.setting.now in
    let part : ℕ → Done = λ n. unwound set c.pop.new.self (resumed set c.in-Some.frame (done (outcome c.frames.way) c.frames.env n)) in
    let whole : ℕ → Done = λ n. unwound set c.args.stack.now (done (outcome c.args.way) c.args.env.now n) in
    let same : (n : ℕ) → part n ≡ whole n = λ n. sym (unwound_on set c.pop.new.self c.frames.stack c.in-Some.frame c.in-Some.ensures (done (outcome c.frames.way) c.frames.env n)) ∙ c.frames.invariant n in
    let stack = c.resume.new.stack in
    let env = c.resume.new.env in
    goes_as set stack env (Ok (signal.Returns c.in-Returns.v)) same (subst (λ r. Goes set part stack env (Ok r)) c.in-Returns.is c.in_ok-next.ensures.runs)

pub returns-in-Turn-clause-runs : goal.returns-in-Turn-clause-runs
returns-in-Turn-clause-runs c =
    let set = meant c.args.setting.now in
    let part : ℕ → Done = λ n. unwound set c.pop.new.self (resumed set c.in-Some.frame (done (outcome c.frames.way) c.frames.env n)) in
    let whole : ℕ → Done = λ n. unwound set c.args.stack.now (done (outcome c.args.way) c.args.env.now n) in
    let same : (n : ℕ) → part n ≡ whole n = λ n. sym (unwound_on set c.pop.new.self c.frames.stack c.in-Some.frame c.in-Some.ensures (done (outcome c.frames.way) c.frames.env n)) ∙ c.frames.invariant n in
    let stack = c.resume.new.stack in
    let env = c.resume.new.env in
    goes_as set stack env (Ok (signal.Turn)) same (subst (λ r. Goes set part stack env (Ok r)) c.in-Turn.is c.in_ok-next.ensures.runs)
