use Rattle.std.proofs.Common.{sym}
use Rattle.std.proofs.lemmas.Result.{err_from_is_err_and}
use Rattle.sql_text.proofs.Steps.{looked, overlooked, read_on, read_no}
use Rattle.sql_text.proofs.files.file_of.Goals as goal

pub returns-then-sees_with-clause-found : goal.returns-then-sees_with-clause-found
returns-then-sees_with-clause-found c = looked (sym c.if-sees_with.ensures) c.recursive_file.ensures.found

pub returns-in_err-query-clause-found : goal.returns-in_err-query-clause-found
returns-in_err-query-clause-found c =
    let p = err_from_is_err_and c.from_residual.result c.from_residual.ensures.1 in
    rw (p.1, p.2) (overlooked (sym c.if-sees_with.ensures) (read_no c.in_err-query.ensures.found))

pub returns-clause-found : goal.returns-clause-found
returns-clause-found c = overlooked (sym c.if-sees_with.ensures) (read_on c.in_ok-query.ensures.found c.ended.ensures.found)
