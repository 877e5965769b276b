use Rattle.std.proofs.Common.{refl}
use Rattle.std.proofs.lemmas.Result.{err_from_is_err_and}
use Rattle.away_grammar.specs.declared.grammar.Mark.TheVariants as m
use Rattle.sql_text.proofs.Steps.{finished, eaten, read_on, read_no, refused}
use Rattle.plsql_parse.proofs.declarations.value_and_end.Goals as goal

pub returns-in_err-default-clause-found : goal.returns-in_err-default-clause-found
returns-in_err-default-clause-found c =
    let p = err_from_is_err_and c.from_residual.result c.from_residual.ensures.1 in
    rw (p.1, p.2) (read_no c.in_err-default.ensures.found)

pub returns-in_err-expect-clause-found : goal.returns-in_err-expect-clause-found
returns-in_err-expect-clause-found c =
    let p = err_from_is_err_and c.from_residual-in_err-expect.result c.from_residual-in_err-expect.ensures.1 in
    rw (p.1, p.2) (read_on c.in_ok-default.ensures.found (refused m.Semicolon c.in_err-expect.ensures.found))

pub returns-clause-found : goal.returns-clause-found
returns-clause-found c = rw c.unboxed.ensures (read_on c.in_ok-default.ensures.found (eaten m.Semicolon c.in_ok-expect.ensures.found (finished refl)))
