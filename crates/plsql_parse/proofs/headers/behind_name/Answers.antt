use Rattle.std.proofs.Common.{refl, sym, ap, ◌∙◌}
use Rattle.std.specs.Prelude.{codes}
use Rattle.std.proofs.lemmas.Result.{err_from_is_err_and}
use Rattle.away_grammar.specs.FunctionGrammar.{may_stand}
use Rattle.sql_text.specs.TerminalKinds.{type_in}
use Rattle.sql_text.specs.Plans.{done}
use Rattle.plsql_parse.specs.Headers.{function_with}
use Rattle.plsql_parse.proofs.BodySteps.{eat_by}
use Rattle.sql_text.proofs.Steps.{finished, read_on, read_no, wanted, not_wanted, failed}
use Rattle.plsql_parse.proofs.Words.{word_eaten, word_refused, then_on, else_on}
use Rattle.away_grammar.specs.declared.grammar.Mark.TheVariants as m
use Rattle.plsql_parse.proofs.headers.behind_name.Goals as goal

pub returns-in_err-params-clause-found : goal.returns-in_err-params-clause-found
returns-in_err-params-clause-found c =
    let p = err_from_is_err_and c.from_residual.result c.from_residual.ensures.1 in
    rw (p.1, p.2) (λ inside. read_no c.in_err-params.ensures.found)

pub returns-in_err-expect_word-clause-found : goal.returns-in_err-expect_word-clause-found
returns-in_err-expect_word-clause-found c =
    let p = err_from_is_err_and c.from_residual-in_err-expect_word.result c.from_residual-in_err-expect_word.ensures.1 in
    rw (p.1, p.2) (λ inside. read_on c.in_ok-params.ensures.found (word_refused (codes "returns") c.in_err-expect_word.ensures.found))

pub returns-in_err-result-clause-found : goal.returns-in_err-result-clause-found
returns-in_err-result-clause-found c =
    let p = err_from_is_err_and c.from_residual-in_err-result.result c.from_residual-in_err-result.ensures.1 in
    rw (p.1, p.2) (λ inside. read_on c.in_ok-params.ensures.found (word_eaten (codes "returns") c.in_ok-expect_word.ensures.found (not_wanted type_in _ c.in_err-result.field-0.0 c.in_err-result.ensures.found)))

pub returns-in_err-found-clause-found : goal.returns-in_err-found-clause-found
returns-in_err-found-clause-found c =
    let p = err_from_is_err_and c.from_residual-in_err-found.result c.from_residual-in_err-found.ensures.1 in
    rw (p.1, p.2) (λ inside. read_on c.in_ok-params.ensures.found (word_eaten (codes "returns") c.in_ok-expect_word.ensures.found (wanted type_in _ c.in_ok-result.ensures.found c.in_ok-result.ensures.rest (read_no c.in_err-found.ensures.found))))

pub returns-then-not-may_stand-clause-found : goal.returns-then-not-may_stand-clause-found
returns-then-not-may_stand-clause-found c = λ inside. read_on c.in_ok-params.ensures.found (word_eaten (codes "returns") c.in_ok-expect_word.ensures.found (wanted type_in _ c.in_ok-result.ensures.found c.in_ok-result.ensures.rest (read_on c.in_ok-found.ensures.found (else_on _ (ap may_stand (sym c.as_slice.ensures) ∙ sym c.if-not-may_stand.ensures) (failed)))))

pub returns-clause-found : goal.returns-clause-found
returns-clause-found c = rw (c.makes_strict-strict.ensures, c.as_slice-2.ensures) (λ inside. read_on c.in_ok-params.ensures.found (word_eaten (codes "returns") c.in_ok-expect_word.ensures.found (wanted type_in _ c.in_ok-result.ensures.found c.in_ok-result.ensures.rest (read_on c.in_ok-found.ensures.found (then_on _ (ap may_stand (sym c.as_slice.ensures) ∙ sym c.if-not-may_stand.ensures) (eat_by m.Semicolon (λ w. done (function_with inside c.args.name c.in_ok-params.params c.in_ok-result.result c.in_ok-found.found)) c.eat.result c.eat.ensures.yes c.eat.ensures.no (finished refl)))))))
