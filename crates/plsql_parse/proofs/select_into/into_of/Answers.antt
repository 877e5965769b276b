use Rattle.std.proofs.Common.{refl}
use Rattle.std.proofs.lemmas.Result.{err_from_is_err_and}
use Rattle.away_grammar.specs.declared.grammar.Mark.TheVariants as m
use Rattle.sql_text.proofs.Steps.{finished, read_on, read_no}
use Rattle.plsql_parse.specs.Bodies.{strict_plan}
use Rattle.plsql_parse.proofs.BodySteps.{eat_by}
use Rattle.plsql_parse.proofs.select_into.into_of.Goals as goal

pub returns-in_err-names-clause-found : goal.returns-in_err-names-clause-found
returns-in_err-names-clause-found c =
    let p = err_from_is_err_and c.from_residual.result c.from_residual.ensures.1 in
    rw (p.1, p.2) (eat_by m.Strict strict_plan _ c.eat-strict.ensures.yes c.eat-strict.ensures.no (read_no c.in_err-names.ensures.found))

pub returns-clause-found : goal.returns-clause-found
returns-clause-found c = eat_by m.Strict strict_plan _ c.eat-strict.ensures.yes c.eat-strict.ensures.no (read_on c.in_ok-names.ensures.found (finished refl))
