use Rattle.std.proofs.Common.{refl, sym}
use Rattle.std.proofs.lemmas.Result.{err_from_is_err_and}
use Rattle.away_grammar.specs.declared.grammar.Mark.TheVariants as m
use Rattle.sql_text.specs.Plans.{no_memory}
use Rattle.sql_text.proofs.Steps.{finished, eaten, read_on, read_no, looked, overlooked, refused, failed}
use Rattle.plsql_parse.proofs.loop_kinds.count_loop.Goals as goal

pub returns-then-not-sees_loop-clause-found : goal.returns-then-not-sees_loop-clause-found
returns-then-not-sees_loop-clause-found c = overlooked (sym c.if-not-sees_loop.ensures) failed

pub returns-in_err-first-clause-found : goal.returns-in_err-first-clause-found
returns-in_err-first-clause-found c =
    let p = err_from_is_err_and c.from_residual.result c.from_residual.ensures.1 in
    rw (p.1, p.2) (looked (sym c.if-not-sees_loop.ensures) (read_no c.in_err-first.ensures.found))

pub returns-in_err-expect-clause-found : goal.returns-in_err-expect-clause-found
returns-in_err-expect-clause-found c =
    let p = err_from_is_err_and c.from_residual-in_err-expect.result c.from_residual-in_err-expect.ensures.1 in
    rw (p.1, p.2) (looked (sym c.if-not-sees_loop.ensures) (read_on c.in_ok-first.ensures.found (refused m.Dots c.in_err-expect.ensures.found)))

pub returns-in_err-last-clause-found : goal.returns-in_err-last-clause-found
returns-in_err-last-clause-found c =
    let p = err_from_is_err_and c.from_residual-in_err-last.result c.from_residual-in_err-last.ensures.1 in
    rw (p.1, p.2) (looked (sym c.if-not-sees_loop.ensures) (read_on c.in_ok-first.ensures.found (eaten m.Dots c.in_ok-expect.ensures.found (read_no c.in_err-last.ensures.found))))

pub returns-in_err-step-clause-found : goal.returns-in_err-step-clause-found
returns-in_err-step-clause-found c =
    let p = err_from_is_err_and c.from_residual-in_err-step.result c.from_residual-in_err-step.ensures.1 in
    rw (p.1, p.2) (looked (sym c.if-not-sees_loop.ensures) (read_on c.in_ok-first.ensures.found (eaten m.Dots c.in_ok-expect.ensures.found (read_on c.in_ok-last.ensures.found (read_no c.in_err-step.ensures.found)))))

pub returns-in_err-new-clause-found : goal.returns-in_err-new-clause-found
returns-in_err-new-clause-found c =
    let p = err_from_is_err_and c.from_residual-in_err-new.result c.from_residual-in_err-new.ensures.1 in
    rw (p.1, p.2) (no_memory)

pub returns-clause-found : goal.returns-clause-found
returns-clause-found c = rw (c.in_ok-new.ensures, c.count_with.ensures) (looked (sym c.if-not-sees_loop.ensures) (read_on c.in_ok-first.ensures.found (eaten m.Dots c.in_ok-expect.ensures.found (read_on c.in_ok-last.ensures.found (read_on c.in_ok-step.ensures.found (finished refl))))))
