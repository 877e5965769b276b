use Rattle.std.proofs.lemmas.Result.{err_from_is_err_and}
use Rattle.sql_text.proofs.Steps.{read_on, read_no}
use Rattle.plsql_parse.proofs.select_into.into_first.Goals as goal

pub returns-in_err-strict-clause-found : goal.returns-in_err-strict-clause-found
returns-in_err-strict-clause-found c =
    let p = err_from_is_err_and c.from_residual.result c.from_residual.ensures.1 in
    rw (p.1, p.2) (read_no c.in_err-strict.ensures.found)

pub returns-in_err-list-clause-found : goal.returns-in_err-list-clause-found
returns-in_err-list-clause-found c =
    let p = err_from_is_err_and c.from_residual-in_err-list.result c.from_residual-in_err-list.ensures.1 in
    rw (p.1, p.2) (read_on c.in_ok-strict.ensures.found (read_no c.in_err-list.ensures.found))

pub returns-clause-found : goal.returns-clause-found
returns-clause-found c = read_on c.in_ok-strict.ensures.found (read_on c.in_ok-list.ensures.found (c.selected.ensures.found))
