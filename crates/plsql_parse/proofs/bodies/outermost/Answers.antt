use Rattle.std.proofs.Common.{refl}
use Rattle.std.proofs.lemmas.Result.{err_from_is_err_and}
use Rattle.away_grammar.specs.declared.grammar.Mark.TheVariants as m
use Rattle.sql_text.specs.Plans.{done}
use Rattle.sql_text.proofs.Steps.{finished, read_on, read_no}
use Rattle.plsql_parse.proofs.BodySteps.{eat_by}
use Rattle.plsql_parse.proofs.bodies.outermost.Goals as goal

pub returns-in_err-found-clause-found : goal.returns-in_err-found-clause-found
returns-in_err-found-clause-found c =
    let p = err_from_is_err_and c.from_residual.result c.from_residual.ensures.1 in
    rw (p.1, p.2) (read_no c.in_err-found.ensures.found)

pub returns-clause-found : goal.returns-clause-found
returns-clause-found c = read_on c.in_ok-found.ensures.found (eat_by m.Semicolon (λ b. done c.in_ok-found.found) _ c.eat.ensures.yes c.eat.ensures.no (finished refl))
