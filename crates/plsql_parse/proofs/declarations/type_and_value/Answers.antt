use Rattle.std.proofs.lemmas.Result.{err_from_is_err_and}
use Rattle.away_grammar.specs.declared.grammar.Mark.TheVariants as m
use Rattle.sql_text.specs.TerminalKinds.{type_in}
use Rattle.sql_text.proofs.Steps.{wanted, not_wanted, eaten, left, refused}
use Rattle.plsql_parse.proofs.declarations.type_and_value.Goals as goal

pub returns-in_err-ty-clause-found : goal.returns-in_err-ty-clause-found
returns-in_err-ty-clause-found c =
    let p = err_from_is_err_and c.from_residual.result c.from_residual.ensures.1 in
    rw (p.1, p.2) (not_wanted type_in _ c.in_err-ty.field-0.0 c.in_err-ty.ensures.found)

pub returns-then-not-eat-clause-found : goal.returns-then-not-eat-clause-found
returns-then-not-eat-clause-found c = wanted type_in _ c.in_ok-ty.ensures.found c.in_ok-ty.ensures.rest (left m.Not c.if-not-eat.ensures.no (c.value_and_end.ensures.found))

pub returns-in_err-expect-clause-found : goal.returns-in_err-expect-clause-found
returns-in_err-expect-clause-found c =
    let p = err_from_is_err_and c.from_residual-in_err-expect.result c.from_residual-in_err-expect.ensures.1 in
    rw (p.1, p.2) (wanted type_in _ c.in_ok-ty.ensures.found c.in_ok-ty.ensures.rest (eaten m.Not c.if-not-eat.ensures.yes (refused m.Null c.in_err-expect.ensures.found)))

pub returns-clause-found : goal.returns-clause-found
returns-clause-found c = wanted type_in _ c.in_ok-ty.ensures.found c.in_ok-ty.ensures.rest (eaten m.Not c.if-not-eat.ensures.yes (eaten m.Null c.in_ok-expect.ensures.found (c.value_and_end-2.ensures.found)))
