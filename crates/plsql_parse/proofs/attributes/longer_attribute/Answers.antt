use Rattle.std.proofs.Common.{sym}
use Rattle.std.proofs.lemmas.Result.{err_from_is_err_and}
use Rattle.sql_text.proofs.Steps.{eaten, refused, failed}
use Rattle.plsql_parse.proofs.Words.{then_on, else_on}
use Rattle.away_grammar.specs.declared.grammar.Mark.TheVariants as m
use Rattle.plsql_parse.proofs.attributes.longer_attribute.Goals as goal

pub returns-in_err-expect-clause-found : goal.returns-in_err-expect-clause-found
returns-in_err-expect-clause-found c =
    let p = err_from_is_err_and c.from_residual.result c.from_residual.ensures.1 in
    rw (p.1, p.2) (else_on _ (sym c.if-is_word.ensures) (then_on _ (sym c.if-is_word-2.ensures) (refused m.Null c.in_err-expect.ensures.found)))

pub returns-in_ok-expect-clause-found : goal.returns-in_ok-expect-clause-found
returns-in_ok-expect-clause-found c = else_on _ (sym c.if-is_word.ensures) (then_on _ (sym c.if-is_word-2.ensures) (eaten m.Null c.in_ok-expect.ensures.found (c.null_input.ensures.found)))

pub returns-else-is_word-5-clause-found : goal.returns-else-is_word-5-clause-found
returns-else-is_word-5-clause-found c = else_on _ (sym c.if-is_word.ensures) (else_on _ (sym c.if-is_word-2.ensures) (else_on _ (sym c.if-is_word-3.ensures) (else_on _ (sym c.if-is_word-4.ensures) (else_on _ (sym c.if-is_word-5.ensures) (failed)))))
