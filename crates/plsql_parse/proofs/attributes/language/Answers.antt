use Rattle.std.proofs.Common.{refl, sym, ap, ◌∙◌, bytes_eq}
use Rattle.std.specs.Prelude.{codes}
use Rattle.std.proofs.lemmas.Result.{err_from_is_err_and}
use Rattle.plsql_parse.specs.Sorts.{string_in}
use Rattle.sql_text.proofs.Steps.{finished, wanted, not_wanted, failed}
use Rattle.plsql_parse.proofs.Words.{word_eaten, word_left, then_on, else_on, text_is}
use Rattle.plsql_parse.proofs.attributes.language.Goals as goal

pub returns-then-eat_word-clause-found : goal.returns-then-eat_word-clause-found
returns-then-eat_word-clause-found c = word_eaten (codes "plpgsql") c.if-eat_word.ensures.yes (finished refl)

pub returns-in_err-name-clause-found : goal.returns-in_err-name-clause-found
returns-in_err-name-clause-found c =
    let p = err_from_is_err_and c.from_residual.result c.from_residual.ensures.1 in
    rw (p.1, p.2) (word_left (codes "plpgsql") c.if-eat_word.ensures.no (not_wanted string_in _ c.in_err-name.field-0.0 c.in_err-name.ensures.found))

pub returns-then-eq-clause-found : goal.returns-then-eq-clause-found
returns-then-eq-clause-found c = word_left (codes "plpgsql") c.if-eat_word.ensures.no (wanted string_in _ c.in_ok-name.ensures.found c.in_ok-name.ensures.rest (then_on _ (ap (λ z. bytes_eq z (codes "plpgsql")) (sym c.text.ensures.value) ∙ text_is c.text.result.now (codes "plpgsql") c.text.utf8 refl ∙ sym c.if-eq.ensures) (finished refl)))

pub returns-clause-found : goal.returns-clause-found
returns-clause-found c = word_left (codes "plpgsql") c.if-eat_word.ensures.no (wanted string_in _ c.in_ok-name.ensures.found c.in_ok-name.ensures.rest (else_on _ (ap (λ z. bytes_eq z (codes "plpgsql")) (sym c.text.ensures.value) ∙ text_is c.text.result.now (codes "plpgsql") c.text.utf8 refl ∙ sym c.if-eq.ensures) (failed)))
