use Rattle.std.proofs.lemmas.Result.{err_from_is_err_and}
use Rattle.sql_text.specs.Plans.{no_memory}
use Rattle.plsql_parse.proofs.Lifted.{lifted_gives}
use Rattle.plsql_parse.proofs.expressions.value_of.Goals as goal

pub returns-in_err-found-clause-found : goal.returns-in_err-found-clause-found
returns-in_err-found-clause-found c =
    let p = err_from_is_err_and c.from_residual.result c.from_residual.ensures.1 in
    rw (p.1, p.2) (lifted_gives c.in_err-found.ensures.found)

pub returns-in_err-new-clause-found : goal.returns-in_err-new-clause-found
returns-in_err-new-clause-found c =
    let p = err_from_is_err_and c.from_residual-in_err-new.result c.from_residual-in_err-new.ensures.1 in
    rw (p.1, p.2) (no_memory)

pub returns-clause-found : goal.returns-clause-found
returns-clause-found c = rw c.in_ok-new.ensures (lifted_gives c.in_ok-found.ensures.found)
