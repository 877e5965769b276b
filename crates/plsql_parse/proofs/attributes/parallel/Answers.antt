use Rattle.std.proofs.Common.{refl, sym}
use Rattle.std.proofs.lemmas.Result.{err_from_is_err_and}
use Rattle.sql_text.specs.TerminalKinds.{name_in}
use Rattle.sql_text.proofs.Steps.{finished, wanted, not_wanted, failed}
use Rattle.plsql_parse.proofs.Words.{then_on, else_on}
use Rattle.plsql_parse.proofs.attributes.parallel.Goals as goal

pub returns-in_err-kind-clause-found : goal.returns-in_err-kind-clause-found
returns-in_err-kind-clause-found c =
    let p = err_from_is_err_and c.from_residual.result c.from_residual.ensures.1 in
    rw (p.1, p.2) (not_wanted name_in _ c.in_err-kind.field-0.0 c.in_err-kind.ensures.found)

pub returns-then-may_run-clause-found : goal.returns-then-may_run-clause-found
returns-then-may_run-clause-found c = wanted name_in _ c.in_ok-kind.ensures.found c.in_ok-kind.ensures.rest (then_on _ (sym c.if-may_run.ensures) (finished refl))

pub returns-clause-found : goal.returns-clause-found
returns-clause-found c = wanted name_in _ c.in_ok-kind.ensures.found c.in_ok-kind.ensures.rest (else_on _ (sym c.if-may_run.ensures) (failed))
