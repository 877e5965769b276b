use Rattle.std.proofs.Common.{subst, ℕ, Ok}
use Rattle.plsql_meaning.specs.Outcomes.{Done}
use Rattle.plsql_meaning.specs.Statements.{meaning}
use Rattle.plsql_run.specs.Settings.{meant}
use Rattle.plsql_run.specs.Continues.{Goes, unwound}
use Rattle.plsql_run.proofs.Unwound.{goes_as}
use Rattle.plsql_run.proofs.function.start.Goals as goal

pub returns-in-Ends-clause-runs : goal.returns-in-Ends-clause-runs
returns-in-Ends-clause-runs c =
    let set = meant c.args.setting.now in
    let whole : ℕ → Done = λ n. unwound set c.args.stack.now ((meaning set c.args.body.now).run c.args.at c.args.env.now n) in
    goes_as set c.run_until_turn.new.stack c.run_until_turn.new.env c.run_until_turn.result
    (subst (λ r. Goes set whole c.enter.new.stack c.enter.new.env (Ok r)) c.in-Ends.is c.in_ok-way.ensures.runs) c.run_until_turn.ensures.runs
