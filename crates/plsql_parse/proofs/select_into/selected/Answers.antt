use Rattle.std.proofs.Common.{refl}
use Rattle.std.proofs.lemmas.Result.{err_from_is_err_and}
use Rattle.away_grammar.specs.declared.grammar.Mark.TheVariants as m
use Rattle.sql_text.proofs.Steps.{finished, eaten, refused, read_on, read_no}
use Rattle.plsql_parse.proofs.select_into.selected.Goals as goal

pub returns-in_err-query-clause-found : goal.returns-in_err-query-clause-found
returns-in_err-query-clause-found c =
    let p = err_from_is_err_and c.from_residual.result c.from_residual.ensures.1 in
    rw (p.1, p.2) (read_no c.in_err-query.ensures.found)

pub returns-in_err-expect-clause-found : goal.returns-in_err-expect-clause-found
returns-in_err-expect-clause-found c =
    let p = err_from_is_err_and c.from_residual-in_err-expect.result c.from_residual-in_err-expect.ensures.1 in
    rw (p.1, p.2) (read_on c.in_ok-query.ensures.found (refused m.Semicolon c.in_err-expect.ensures.found))

pub returns-clause-found : goal.returns-clause-found
returns-clause-found c = rw c.into_with.ensures (read_on c.in_ok-query.ensures.found (eaten m.Semicolon c.in_ok-expect.ensures.found (finished refl)))
