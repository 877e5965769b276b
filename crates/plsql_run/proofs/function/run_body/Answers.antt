use Rattle.std.proofs.Common.{ap}
use Rattle.std.proofs.lemmas.Result.{err_from_is_err_and}
use Rattle.plsql_meaning.specs.Statements.{meaning}
use Rattle.plsql_run.specs.Settings.{meant}
use Rattle.plsql_run.specs.Continues.{unwound}
use Rattle.plsql_run.proofs.Standing.{stands_at, wants_more, fails_at}
use Rattle.plsql_run.proofs.function.run_body.Goals as goal

pub returns-in_err-signal : goal.returns-in_err-signal
returns-in_err-signal c =
    let p = err_from_is_err_and c.from_residual.result c.from_residual.ensures.1 in
    let set = meant c.args.setting.now in
    let run = (meaning set c.args.body.now).run c.args.at c.args.env.now in
    rw (p.1, p.2) (fails_at (λ n. unwound set c.new-stack.result (run n)) c.args.bound (run c.args.bound) c.in_err-signal.field-0.0 (ap (λ fs. unwound set fs (run c.args.bound)) c.new-stack.ensures) c.in_err-signal.ensures.runs)

pub turns-init : goal.turns-init
turns-init c =
    let set = meant c.args.setting.now in
    let run = (meaning set c.args.body.now).run c.args.at c.args.env.now in
    stands_at set (λ n. unwound set c.new-stack.result (run n)) (run c.args.bound) c.start.new.stack c.start.new.env c.args.bound c.in_ok-signal.signal (ap (λ fs. unwound set fs (run c.args.bound)) c.new-stack.ensures) c.in_ok-signal.ensures.runs c.in_ok-signal.ensures.ends

pub returns-then-left-eq0 : goal.returns-then-left-eq0
returns-then-left-eq0 c =
    let set = meant c.args.setting.now in
    let run = (meaning set c.args.body.now).run c.args.at c.args.env.now in
    wants_more set (run c.args.bound) c.turns.stack c.turns.env c.turns.left c.turns.signal c.in-Turn.is c.if-left-eq0.true c.turns.invariant
