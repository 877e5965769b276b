use Rattle.std.proofs.Common.{slice_set, sym, ap, ◌∙◌}
use Rattle.away_values.specs.Operators.{is_true}
use Rattle.plsql_meaning.specs.Loops.{taken}
use Rattle.plsql_run.specs.declared.frames.Frame.TheVariants as frame
use Rattle.plsql_run.specs.Continues.{body_of, resumed, unwound}
use Rattle.plsql_run.proofs.Unwound.{count_turn, goes_as}
use Rattle.plsql_run.proofs.loops.begin_count.Goals as goal

pub returns-clause-runs : goal.returns-clause-runs
returns-clause-runs c = λ set.
    let env = c.put_at.new.env in
    let k = c.args.counting in
    goes_as set c.begin.new.stack env c.begin.result
    (λ n. ap (unwound set c.args.stack.now) (ap (λ p. taken env n (λ e m. resumed set (frame.Count c.args.counter k) (body_of set p e m))) c.again-first.ensures
    ∙ ap (λ e. taken e n (λ e m. resumed set (frame.Count c.args.counter k) (body_of set k.body e m))) (c.put_at.ensures ∙ ap (slice_set c.args.env.now k.var) c.in_ok-copy.ensures)
    ∙ count_turn set k c.args.counter c.args.env.now (sym (ap is_true c.reaches.ensures) ∙ sym c.is_true.ensures ∙ c.if-not-is_true.false) n))
    (c.begin.ensures.runs set env)
