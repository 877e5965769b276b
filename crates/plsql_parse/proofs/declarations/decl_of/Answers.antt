use Rattle.std.proofs.lemmas.Result.{err_from_is_err_and}
use Rattle.away_grammar.specs.declared.grammar.Mark.TheVariants as m
use Rattle.sql_text.specs.TerminalKinds.{name_in}
use Rattle.sql_text.proofs.Steps.{wanted, not_wanted}
use Rattle.plsql_parse.specs.Bodies.{typed_plan}
use Rattle.plsql_parse.proofs.BodySteps.{eat_by}
use Rattle.plsql_parse.proofs.declarations.decl_of.Goals as goal

pub returns-in_err-name-clause-found : goal.returns-in_err-name-clause-found
returns-in_err-name-clause-found c =
    let p = err_from_is_err_and c.from_residual.result c.from_residual.ensures.1 in
    rw (p.1, p.2) (not_wanted name_in _ c.in_err-name.field-0.0 c.in_err-name.ensures.found)

pub returns-clause-found : goal.returns-clause-found
returns-clause-found c = wanted name_in _ c.in_ok-name.ensures.found c.in_ok-name.ensures.rest (eat_by m.Constant (λ constant. typed_plan c.in_ok-name.name constant) _ c.eat-constant.ensures.yes c.eat-constant.ensures.no (c.type_and_value.ensures.found))
