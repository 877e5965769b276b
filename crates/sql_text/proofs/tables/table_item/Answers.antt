use Rattle.std.proofs.lemmas.Result.{err_from_is_err_and}
use Rattle.sql_text.proofs.Names.{name_read, name_missing}
use Rattle.sql_text.proofs.tables.table_item.Goals as goal

pub returns-in_err-name-clause-found : goal.returns-in_err-name-clause-found
returns-in_err-name-clause-found c =
    let p = err_from_is_err_and c.from_residual.result c.from_residual.ensures.1 in
    rw (p.1, p.2) (name_missing _ _ c.in_err-name.field-0.0 c.in_err-name.ensures.found)

pub returns-clause-found : goal.returns-clause-found
returns-clause-found c = name_read _ c.in_ok-name.ensures.found c.aliased_table.ensures.found
