use Rattle.std.proofs.Common.{refl}
use Rattle.std.proofs.lemmas.Result.{err_from_is_err_and}
use Rattle.sql_text.proofs.Steps.{finished, read_on, read_no}
use Rattle.plsql_parse.proofs.declarations.default_expression.Goals as goal

pub returns-in_err-value_of-clause-found : goal.returns-in_err-value_of-clause-found
returns-in_err-value_of-clause-found c =
    let p = err_from_is_err_and c.from_residual.result c.from_residual.ensures.1 in
    rw (p.1, p.2) (read_no c.in_err-value_of.ensures.found)

pub returns-clause-found : goal.returns-clause-found
returns-clause-found c = read_on c.in_ok-value_of.ensures.found (finished refl)
