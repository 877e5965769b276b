use Rattle.std.proofs.Common.{refl}
use Rattle.std.proofs.lemmas.Result.{err_from_is_err_and}
use Rattle.away_grammar.specs.declared.grammar.Mark.TheVariants as m
use Rattle.sql_text.proofs.Steps.{finished, eaten, refused}
use Rattle.plsql_parse.proofs.simple_statements.null_statement.Goals as goal

pub returns-in_err-expect-clause-found : goal.returns-in_err-expect-clause-found
returns-in_err-expect-clause-found c =
    let p = err_from_is_err_and c.from_residual.result c.from_residual.ensures.1 in
    rw (p.1, p.2) (refused m.Semicolon c.in_err-expect.ensures.found)

pub returns-clause-found : goal.returns-clause-found
returns-clause-found c = eaten m.Semicolon c.in_ok-expect.ensures.found (finished refl)
