use Rattle.std.proofs.Common.{refl}
use Rattle.std.proofs.lemmas.Result.{err_from_is_err_and}
use Rattle.sql_text.proofs.Steps.{finished, eaten, left, read_on, read_no, refused}
use Rattle.away_grammar.specs.declared.grammar.Mark.TheVariants as m
use Rattle.plsql_parse.proofs.headers.signature_of.Goals as goal

pub returns-in_err-expect-clause-found : goal.returns-in_err-expect-clause-found
returns-in_err-expect-clause-found c =
    let p = err_from_is_err_and c.from_residual.result c.from_residual.ensures.1 in
    rw (p.1, p.2) (refused m.Open c.in_err-expect.ensures.found)

pub returns-then-eat-clause-found : goal.returns-then-eat-clause-found
returns-then-eat-clause-found c = rw c.new.ensures (eaten m.Open c.in_ok-expect.ensures.found (eaten m.Close c.if-eat.ensures.yes (finished refl)))

pub returns-in_err-found-clause-found : goal.returns-in_err-found-clause-found
returns-in_err-found-clause-found c =
    let p = err_from_is_err_and c.from_residual-in_err-found.result c.from_residual-in_err-found.ensures.1 in
    rw (p.1, p.2) (eaten m.Open c.in_ok-expect.ensures.found (left m.Close c.if-eat.ensures.no (read_no c.in_err-found.ensures.found)))

pub returns-in_err-expect-2-clause-found : goal.returns-in_err-expect-2-clause-found
returns-in_err-expect-2-clause-found c =
    let p = err_from_is_err_and c.from_residual-in_err-expect-2.result c.from_residual-in_err-expect-2.ensures.1 in
    rw (p.1, p.2) (eaten m.Open c.in_ok-expect.ensures.found (left m.Close c.if-eat.ensures.no (read_on c.in_ok-found.ensures.found (refused m.Close c.in_err-expect-2.ensures.found))))

pub returns-clause-found : goal.returns-clause-found
returns-clause-found c = eaten m.Open c.in_ok-expect.ensures.found (left m.Close c.if-eat.ensures.no (read_on c.in_ok-found.ensures.found (eaten m.Close c.in_ok-expect-2.ensures.found (finished refl))))
