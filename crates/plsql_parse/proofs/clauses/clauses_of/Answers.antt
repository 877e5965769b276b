use Rattle.std.proofs.Common.{refl}
use Rattle.std.proofs.lemmas.Result.{err_from_is_err_and}
use Rattle.sql_text.specs.Plans.{no_memory}
use Rattle.sql_text.proofs.Steps.{finished, read_on, read_no}
use Rattle.plsql_parse.proofs.clauses.clauses_of.Goals as goal

pub returns-in_err-from-clause-found : goal.returns-in_err-from-clause-found
returns-in_err-from-clause-found c =
    let p = err_from_is_err_and c.from_residual.result c.from_residual.ensures.1 in
    rw (p.1, p.2) (read_no c.in_err-from.ensures.found)

pub returns-in_err-filter-clause-found : goal.returns-in_err-filter-clause-found
returns-in_err-filter-clause-found c =
    let p = err_from_is_err_and c.from_residual-in_err-filter.result c.from_residual-in_err-filter.ensures.1 in
    rw (p.1, p.2) (read_on c.in_ok-from.ensures.found (read_no c.in_err-filter.ensures.found))

pub returns-in_err-order-clause-found : goal.returns-in_err-order-clause-found
returns-in_err-order-clause-found c =
    let p = err_from_is_err_and c.from_residual-in_err-order.result c.from_residual-in_err-order.ensures.1 in
    rw (p.1, p.2) (read_on c.in_ok-from.ensures.found (read_on c.in_ok-filter.ensures.found (read_no c.in_err-order.ensures.found)))

pub returns-in_err-limit-clause-found : goal.returns-in_err-limit-clause-found
returns-in_err-limit-clause-found c =
    let p = err_from_is_err_and c.from_residual-in_err-limit.result c.from_residual-in_err-limit.ensures.1 in
    rw (p.1, p.2) (read_on c.in_ok-from.ensures.found (read_on c.in_ok-filter.ensures.found (read_on c.in_ok-order.ensures.found (read_no c.in_err-limit.ensures.found))))

pub returns-in_err-new-clause-found : goal.returns-in_err-new-clause-found
returns-in_err-new-clause-found c =
    let p = err_from_is_err_and c.from_residual-in_err-new.result c.from_residual-in_err-new.ensures.1 in
    rw (p.1, p.2) (no_memory)

pub returns-clause-found : goal.returns-clause-found
returns-clause-found c = rw c.in_ok-new.ensures (rw (c.unboxed.ensures, c.unboxed-2.ensures) (read_on c.in_ok-from.ensures.found (read_on c.in_ok-filter.ensures.found (read_on c.in_ok-order.ensures.found (read_on c.in_ok-limit.ensures.found (finished refl))))))
