use Rattle.std.proofs.Common.{sym, ap}
use Rattle.plsql_meaning.specs.Statements.{loop, in_row, meanings, body_at}
use Rattle.plsql_run.specs.Settings.{meant}
use Rattle.plsql_run.specs.Continues.{unwound}
use Rattle.plsql_run.proofs.Unwound.{goes_as}
use Rattle.plsql_run.proofs.enter.enter_loop.Goals as goal

pub returns-in-Plain-clause-runs : goal.returns-in-Plain-clause-runs
returns-in-Plain-clause-runs c =
    let set = meant c.args.setting.now in
    goes_as set c.begin_plain.new.stack c.args.env.now c.begin_plain.result
    (λ n. ap (λ k. unwound set c.args.stack.now (loop set k c.args.label.now c.args.at (in_row (meanings set c.args.list.now) (body_at k c.args.at)) c.args.env.now n)) (sym c.in-Plain.is))
    (c.begin_plain.ensures.runs set c.args.env.now)

pub returns-in-While-clause-runs : goal.returns-in-While-clause-runs
returns-in-While-clause-runs c =
    let set = meant c.args.setting.now in
    goes_as set c.begin_while.new.stack c.args.env.now c.begin_while.result
    (λ n. ap (λ k. unwound set c.args.stack.now (loop set k c.args.label.now c.args.at (in_row (meanings set c.args.list.now) (body_at k c.args.at)) c.args.env.now n)) (sym c.in-While.is))
    (c.begin_while.ensures.runs)

pub returns-in-Count-clause-runs : goal.returns-in-Count-clause-runs
returns-in-Count-clause-runs c =
    let set = meant c.args.setting.now in
    goes_as set c.enter_count.new.stack c.enter_count.new.env c.enter_count.result
    (λ n. ap (λ k. unwound set c.args.stack.now (loop set k c.args.label.now c.args.at (in_row (meanings set c.args.list.now) (body_at k c.args.at)) c.args.env.now n)) (sym c.in-Count.is))
    (c.enter_count.ensures.runs c.in-Count.var)
