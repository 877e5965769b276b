use Rattle.std.proofs.lemmas.Result.{err_from_is_err_and}
use Rattle.away_grammar.specs.declared.grammar.Mark.TheVariants as m
use Rattle.sql_text.proofs.Steps.{eaten, left, read_on, read_no}
use Rattle.plsql_parse.proofs.select_into.select_statement.Goals as goal

pub returns-then-eat-clause-found : goal.returns-then-eat-clause-found
returns-then-eat-clause-found c = eaten m.Into c.if-eat.ensures.yes (c.into_first.ensures.found)

pub returns-in_err-list-clause-found : goal.returns-in_err-list-clause-found
returns-in_err-list-clause-found c =
    let p = err_from_is_err_and c.from_residual.result c.from_residual.ensures.1 in
    rw (p.1, p.2) (left m.Into c.if-eat.ensures.no (read_no c.in_err-list.ensures.found))

pub returns-clause-found : goal.returns-clause-found
returns-clause-found c = left m.Into c.if-eat.ensures.no (read_on c.in_ok-list.ensures.found (c.into_behind.ensures.found))
