use Rattle.std.proofs.lemmas.Result.{err_from_is_err_and}
use Rattle.sql_text.specs.Plans.{no_memory}
use Rattle.function_places.proofs.node_places.take_statement.Goals as goal

pub returns-in_err-new-clause-found : goal.returns-in_err-new-clause-found
returns-in_err-new-clause-found c =
    let p = err_from_is_err_and c.from_residual-in_err-new.result c.from_residual-in_err-new.ensures.1 in
    rw (p.1, p.2) (no_memory)
