use Rattle.std.proofs.Common.{refl, arith}
use Rattle.std.specs.Prelude.{codes}
use Rattle.std.proofs.lemmas.Result.{err_from_is_err_and}
use Rattle.sql_text.proofs.Steps.{finished}
use Rattle.plsql_parse.proofs.Words.{word_eaten, word_refused, no_attribute}
use Rattle.plsql_parse.proofs.attributes.marked_attribute.Goals as goal

pub returns-in_err-expect_word-in-Not-clause-found : goal.returns-in_err-expect_word-in-Not-clause-found
returns-in_err-expect_word-in-Not-clause-found c =
    let p = err_from_is_err_and c.from_residual.result c.from_residual.ensures.1 in
    rw (p.1, p.2, c.in-Not.is) (word_refused (codes "leakproof") c.in_err-expect_word-in-Not.ensures.found)

pub returns-in-Strict-clause-found : goal.returns-in-Strict-clause-found
returns-in-Strict-clause-found c = rw c.in-Strict.is (finished refl)

pub returns-in_ok-expect_word-in-Not-clause-found : goal.returns-in_ok-expect_word-in-Not-clause-found
returns-in_ok-expect_word-in-Not-clause-found c = rw c.in-Not.is (word_eaten (codes "leakproof") c.in_ok-expect_word-in-Not.ensures.found (finished refl))

pub returns-in_default : goal.returns-in_default
returns-in_default c = record { found = no_attribute c.args.mark c.in_default.not-As c.in_default.not-Strict c.in_default.not-Not; shrinks = omega arith }
