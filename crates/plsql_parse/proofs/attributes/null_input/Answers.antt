use Rattle.std.proofs.Common.{refl}
use Rattle.std.specs.Prelude.{codes}
use Rattle.std.proofs.lemmas.Result.{err_from_is_err_and}
use Rattle.sql_text.proofs.Steps.{finished, eaten, refused}
use Rattle.plsql_parse.proofs.Words.{word_eaten, word_refused}
use Rattle.away_grammar.specs.declared.grammar.Mark.TheVariants as m
use Rattle.plsql_parse.proofs.attributes.null_input.Goals as goal

pub returns-in_err-expect-clause-found : goal.returns-in_err-expect-clause-found
returns-in_err-expect-clause-found c =
    let p = err_from_is_err_and c.from_residual.result c.from_residual.ensures.1 in
    rw (p.1, p.2) (refused m.On c.in_err-expect.ensures.found)

pub returns-in_err-expect-2-clause-found : goal.returns-in_err-expect-2-clause-found
returns-in_err-expect-2-clause-found c =
    let p = err_from_is_err_and c.from_residual-in_err-expect-2.result c.from_residual-in_err-expect-2.ensures.1 in
    rw (p.1, p.2) (eaten m.On c.in_ok-expect.ensures.found (refused m.Null c.in_err-expect-2.ensures.found))

pub returns-in_err-expect_word-clause-found : goal.returns-in_err-expect_word-clause-found
returns-in_err-expect_word-clause-found c =
    let p = err_from_is_err_and c.from_residual-in_err-expect_word.result c.from_residual-in_err-expect_word.ensures.1 in
    rw (p.1, p.2) (eaten m.On c.in_ok-expect.ensures.found (eaten m.Null c.in_ok-expect-2.ensures.found (word_refused (codes "input") c.in_err-expect_word.ensures.found)))

pub returns-clause-found : goal.returns-clause-found
returns-clause-found c = eaten m.On c.in_ok-expect.ensures.found (eaten m.Null c.in_ok-expect-2.ensures.found (word_eaten (codes "input") c.in_ok-expect_word.ensures.found (finished refl)))
