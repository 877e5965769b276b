use Rattle.std.proofs.Common.{refl}
use Rattle.std.proofs.lemmas.Result.{err_from_is_err_and}
use Rattle.sql_text.specs.TerminalKinds.{name_in, type_in}
use Rattle.plsql_parse.specs.Headers.{typed_name_plan}
use Rattle.plsql_parse.proofs.BodySteps.{eat_by}
use Rattle.sql_text.proofs.Steps.{finished, wanted, not_wanted}
use Rattle.away_grammar.specs.declared.grammar.Mark.TheVariants as m
use Rattle.plsql_parse.proofs.headers.parameter_of.Goals as goal

pub returns-in_err-name-clause-found : goal.returns-in_err-name-clause-found
returns-in_err-name-clause-found c =
    let p = err_from_is_err_and c.from_residual.result c.from_residual.ensures.1 in
    rw (p.1, p.2) (eat_by m.In (λ w. typed_name_plan) c.eat.result c.eat.ensures.yes c.eat.ensures.no (not_wanted name_in _ c.in_err-name.field-0.0 c.in_err-name.ensures.found))

pub returns-in_err-ty-clause-found : goal.returns-in_err-ty-clause-found
returns-in_err-ty-clause-found c =
    let p = err_from_is_err_and c.from_residual-in_err-ty.result c.from_residual-in_err-ty.ensures.1 in
    rw (p.1, p.2) (eat_by m.In (λ w. typed_name_plan) c.eat.result c.eat.ensures.yes c.eat.ensures.no (wanted name_in _ c.in_ok-name.ensures.found c.in_ok-name.ensures.rest (not_wanted type_in _ c.in_err-ty.field-0.0 c.in_err-ty.ensures.found)))

pub returns-clause-found : goal.returns-clause-found
returns-clause-found c = eat_by m.In (λ w. typed_name_plan) c.eat.result c.eat.ensures.yes c.eat.ensures.no (wanted name_in _ c.in_ok-name.ensures.found c.in_ok-name.ensures.rest (wanted type_in _ c.in_ok-ty.ensures.found c.in_ok-ty.ensures.rest (finished refl)))
