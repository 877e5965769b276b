use Rattle.std.proofs.Common.{refl, sym}
use Rattle.std.proofs.lemmas.Result.{err_from_is_err_and}
use Rattle.sql_text.specs.Plans.{no_memory}
use Rattle.sql_text.proofs.Steps.{finished, read_on, read_no, looked, overlooked, failed}
use Rattle.plsql_parse.proofs.loop_kinds.while_loop.Goals as goal

pub returns-then-not-sees_loop-clause-found : goal.returns-then-not-sees_loop-clause-found
returns-then-not-sees_loop-clause-found c = overlooked (sym c.if-not-sees_loop.ensures) failed

pub returns-in_err-test-clause-found : goal.returns-in_err-test-clause-found
returns-in_err-test-clause-found c =
    let p = err_from_is_err_and c.from_residual.result c.from_residual.ensures.1 in
    rw (p.1, p.2) (looked (sym c.if-not-sees_loop.ensures) (read_no c.in_err-test.ensures.found))

pub returns-in_err-new-clause-found : goal.returns-in_err-new-clause-found
returns-in_err-new-clause-found c =
    let p = err_from_is_err_and c.from_residual-in_err-new.result c.from_residual-in_err-new.ensures.1 in
    rw (p.1, p.2) (no_memory)

pub returns-clause-found : goal.returns-clause-found
returns-clause-found c = rw (c.in_ok-new.ensures, c.while_with.ensures) (looked (sym c.if-not-sees_loop.ensures) (read_on c.in_ok-test.ensures.found (finished refl)))
