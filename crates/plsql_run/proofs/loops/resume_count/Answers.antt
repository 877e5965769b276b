use Rattle.std.proofs.Common.{sym, ap, ◌∙◌, Ok}
use Rattle.plsql_meaning.specs.Outcomes.{faults}
use Rattle.plsql_meaning.specs.Loops.{moved, turning}
use Rattle.plsql_run.specs.Continues.{body_of, count_of, unwound}
use Rattle.plsql_run.proofs.Unwound.{goes_as, passes}
use Rattle.plsql_run.proofs.loops.resume_count.Goals as goal

pub returns-in-Err-clause-runs : goal.returns-in-Err-clause-runs
returns-in-Err-clause-runs c = λ set n.
    let k = c.args.counting in
    let t = count_of k in
    let go = turning t k.label.now (body_of set k.body) in
    passes set c.args.stack.now (faults c.in-Err.class) tt (moved (t.next c.args.counter) go c.args.env.now n) (ap (λ r. (moved r go c.args.env.now n).outcome) (sym c.next_count.ensures ∙ c.in-Err.is))

pub returns-clause-runs : goal.returns-clause-runs
returns-clause-runs c = λ set.
    let k = c.args.counting in
    let t = count_of k in
    let go = turning t k.label.now (body_of set k.body) in
    goes_as set c.begin_count.new.stack c.begin_count.new.env c.begin_count.result
    (λ n. ap (λ r. unwound set c.args.stack.now (moved r go c.args.env.now n)) (sym (sym c.next_count.ensures ∙ c.in-Ok-Some.is ∙ ap Ok c.in-Ok-Some.field-0-is)))
    (c.begin_count.ensures.runs set)
