use Rattle.std.proofs.lemmas.Result.{err_from_is_err_and}
use Rattle.away_grammar.specs.declared.grammar.Mark.TheVariants as m
use Rattle.sql_text.proofs.Steps.{eaten, refused, read_on, read_no}
use Rattle.plsql_parse.proofs.select_into.into_behind.Goals as goal

pub returns-in_err-expect-clause-found : goal.returns-in_err-expect-clause-found
returns-in_err-expect-clause-found c =
    let p = err_from_is_err_and c.from_residual.result c.from_residual.ensures.1 in
    rw (p.1, p.2) (refused m.Into c.in_err-expect.ensures.found)

pub returns-in_err-strict-clause-found : goal.returns-in_err-strict-clause-found
returns-in_err-strict-clause-found c =
    let p = err_from_is_err_and c.from_residual-in_err-strict.result c.from_residual-in_err-strict.ensures.1 in
    rw (p.1, p.2) (eaten m.Into c.in_ok-expect.ensures.found (read_no c.in_err-strict.ensures.found))

pub returns-clause-found : goal.returns-clause-found
returns-clause-found c = eaten m.Into c.in_ok-expect.ensures.found (read_on c.in_ok-strict.ensures.found (c.selected.ensures.found))
