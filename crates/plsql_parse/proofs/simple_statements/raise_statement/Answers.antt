use Rattle.std.proofs.Common.{refl, codes}
use Rattle.std.proofs.lemmas.Result.{err_from_is_err_and}
use Rattle.away_grammar.specs.declared.grammar.Mark.TheVariants as m
use Rattle.sql_text.proofs.Steps.{finished, eaten, wanted, not_wanted, refused}
use Rattle.plsql_parse.specs.Sorts.{string_in}
use Rattle.plsql_parse.specs.Bodies.{raised_plan, text_plan}
use Rattle.plsql_parse.specs.Taken.{raised_as}
use Rattle.plsql_parse.proofs.BodySteps.{word_by}
use Rattle.plsql_parse.proofs.simple_statements.raise_statement.Goals as goal

pub returns-in_err-text-clause-found : goal.returns-in_err-text-clause-found
returns-in_err-text-clause-found c =
    let p = err_from_is_err_and c.from_residual.result c.from_residual.ensures.1 in
    rw (p.1, p.2) (word_by (codes "exception") (λ b. raised_plan) _ c.eat_word.ensures.yes c.eat_word.ensures.no (word_by (codes "sqlstate") (λ b. text_plan (raised_as b)) _ c.eat_word-is_state.ensures.yes c.eat_word-is_state.ensures.no (not_wanted string_in _ c.in_err-text.field-0.0 c.in_err-text.ensures.found)))

pub returns-in_err-expect-clause-found : goal.returns-in_err-expect-clause-found
returns-in_err-expect-clause-found c =
    let p = err_from_is_err_and c.from_residual-in_err-expect.result c.from_residual-in_err-expect.ensures.1 in
    rw (p.1, p.2) (word_by (codes "exception") (λ b. raised_plan) _ c.eat_word.ensures.yes c.eat_word.ensures.no (word_by (codes "sqlstate") (λ b. text_plan (raised_as b)) _ c.eat_word-is_state.ensures.yes c.eat_word-is_state.ensures.no (wanted string_in _ c.in_ok-text.ensures.found c.in_ok-text.ensures.rest (refused m.Semicolon c.in_err-expect.ensures.found))))

pub returns-clause-found : goal.returns-clause-found
returns-clause-found c = rw c.raised_with.ensures (word_by (codes "exception") (λ b. raised_plan) _ c.eat_word.ensures.yes c.eat_word.ensures.no (word_by (codes "sqlstate") (λ b. text_plan (raised_as b)) _ c.eat_word-is_state.ensures.yes c.eat_word-is_state.ensures.no (wanted string_in _ c.in_ok-text.ensures.found c.in_ok-text.ensures.rest (eaten m.Semicolon c.in_ok-expect.ensures.found (finished refl)))))
