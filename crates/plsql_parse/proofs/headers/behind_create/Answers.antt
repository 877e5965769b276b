use Rattle.std.specs.Prelude.{codes}
use Rattle.std.proofs.lemmas.Result.{err_from_is_err_and}
use Rattle.plsql_parse.proofs.Words.{word_eaten, word_refused}
use Rattle.plsql_parse.proofs.headers.behind_create.Goals as goal

pub returns-in_err-expect_word-clause-found : goal.returns-in_err-expect_word-clause-found
returns-in_err-expect_word-clause-found c =
    let p = err_from_is_err_and c.from_residual.result c.from_residual.ensures.1 in
    rw (p.1, p.2) (λ inside. word_refused (codes "function") c.in_err-expect_word.ensures.found)

pub returns-clause-found : goal.returns-clause-found
returns-clause-found c = λ inside. word_eaten (codes "function") c.in_ok-expect_word.ensures.found (c.schema_qualified.ensures.found inside)
