use Rattle.plsql_meaning.specs.Outcomes.{done, normal}
use Rattle.plsql_run.specs.declared.frames.Frame.TheVariants as frame
use Rattle.plsql_run.proofs.Unwound.{unwound_on}
use Rattle.plsql_run.proofs.enter.enter_list.Goals as goal

pub returns-clause-runs : goal.returns-clause-runs
returns-clause-runs c = λ set env n. unwound_on set c.args.stack.now c.push.new.self (frame.Rest c.args.list) c.in_ok-push.ensures.ok (done normal env n)
