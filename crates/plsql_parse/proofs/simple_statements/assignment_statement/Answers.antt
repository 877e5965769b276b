use Rattle.std.proofs.lemmas.Result.{err_from_is_err_and}
use Rattle.away_grammar.specs.declared.grammar.Mark.TheVariants as m
use Rattle.sql_text.proofs.Steps.{eaten, left, refused}
use Rattle.plsql_parse.proofs.simple_statements.assignment_statement.Goals as goal

pub returns-then-eat-clause-found : goal.returns-then-eat-clause-found
returns-then-eat-clause-found c = eaten m.Assign c.if-eat.ensures.yes (c.assigned_value.ensures.found)

pub returns-in_err-expect-clause-found : goal.returns-in_err-expect-clause-found
returns-in_err-expect-clause-found c =
    let p = err_from_is_err_and c.from_residual.result c.from_residual.ensures.1 in
    rw (p.1, p.2) (left m.Assign c.if-eat.ensures.no (refused m.Equal c.in_err-expect.ensures.found))

pub returns-clause-found : goal.returns-clause-found
returns-clause-found c = left m.Assign c.if-eat.ensures.no (eaten m.Equal c.in_ok-expect.ensures.found (c.assigned_value-2.ensures.found))
