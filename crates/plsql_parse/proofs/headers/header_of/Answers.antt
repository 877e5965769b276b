use Rattle.std.specs.Prelude.{codes}
use Rattle.std.proofs.lemmas.Result.{err_from_is_err_and}
use Rattle.sql_text.proofs.Steps.{eaten, left, refused}
use Rattle.plsql_parse.proofs.Words.{word_eaten, word_refused}
use Rattle.away_grammar.specs.declared.grammar.Mark.TheVariants as m
use Rattle.plsql_parse.proofs.headers.header_of.Goals as goal

pub returns-in_err-expect-clause-found : goal.returns-in_err-expect-clause-found
returns-in_err-expect-clause-found c =
    let p = err_from_is_err_and c.from_residual.result c.from_residual.ensures.1 in
    rw (p.1, p.2) (λ inside. refused m.Create c.in_err-expect.ensures.found)

pub returns-then-not-eat-clause-found : goal.returns-then-not-eat-clause-found
returns-then-not-eat-clause-found c = λ inside. eaten m.Create c.in_ok-expect.ensures.found (left m.Or c.if-not-eat.ensures.no (c.behind_create.ensures.found inside))

pub returns-in_err-expect_word-clause-found : goal.returns-in_err-expect_word-clause-found
returns-in_err-expect_word-clause-found c =
    let p = err_from_is_err_and c.from_residual-in_err-expect_word.result c.from_residual-in_err-expect_word.ensures.1 in
    rw (p.1, p.2) (λ inside. eaten m.Create c.in_ok-expect.ensures.found (eaten m.Or c.if-not-eat.ensures.yes (word_refused (codes "replace") c.in_err-expect_word.ensures.found)))

pub returns-clause-found : goal.returns-clause-found
returns-clause-found c = λ inside. eaten m.Create c.in_ok-expect.ensures.found (eaten m.Or c.if-not-eat.ensures.yes (word_eaten (codes "replace") c.in_ok-expect_word.ensures.found (c.behind_create-2.ensures.found inside)))
