use Rattle.std.proofs.lemmas.Result.{err_from_is_err_and}
use Rattle.away_grammar.specs.declared.grammar.Mark.TheVariants as m
use Rattle.sql_text.proofs.Steps.{eaten, refused}
use Rattle.plsql_parse.proofs.BodySteps.{end_with}
use Rattle.plsql_parse.proofs.statements.end_of.Goals as goal

pub returns-in_err-expect-clause-found : goal.returns-in_err-expect-clause-found
returns-in_err-expect-clause-found c =
    let p = err_from_is_err_and c.from_residual.result c.from_residual.ensures.1 in
    rw (p.1, p.2) (λ x. (refused m.End c.in_err-expect.ensures.found))

pub returns-in_err-expect-2-clause-found : goal.returns-in_err-expect-2-clause-found
returns-in_err-expect-2-clause-found c =
    let p = err_from_is_err_and c.from_residual-in_err-expect-2.result c.from_residual-in_err-expect-2.ensures.1 in
    rw (p.1, p.2) (λ x. (eaten m.End c.in_ok-expect.ensures.found (refused c.args.mark c.in_err-expect-2.ensures.found)))

pub returns-clause-found : goal.returns-clause-found
returns-clause-found c = λ x. (eaten m.End c.in_ok-expect.ensures.found (eaten c.args.mark c.in_ok-expect-2.ensures.found (end_with x _ c.expect-3.ensures.found)))
