use Rattle.std.proofs.lemmas.Result.{err_from_is_err_and}
use Rattle.away_grammar.specs.declared.grammar.Mark.TheVariants as m
use Rattle.sql_text.specs.TerminalKinds.{name_in}
use Rattle.sql_text.proofs.Steps.{eaten, left, wanted, not_wanted, refused}
use Rattle.plsql_parse.proofs.bodies.body_of.Goals as goal

pub returns-then-not-eat-clause-found : goal.returns-then-not-eat-clause-found
returns-then-not-eat-clause-found c = left m.LabelOpen c.if-not-eat.ensures.no (c.outermost.ensures.found)

pub returns-in_err-label-clause-found : goal.returns-in_err-label-clause-found
returns-in_err-label-clause-found c =
    let p = err_from_is_err_and c.from_residual.result c.from_residual.ensures.1 in
    rw (p.1, p.2) (eaten m.LabelOpen c.if-not-eat.ensures.yes (not_wanted name_in _ c.in_err-label.field-0.0 c.in_err-label.ensures.found))

pub returns-in_err-expect-clause-found : goal.returns-in_err-expect-clause-found
returns-in_err-expect-clause-found c =
    let p = err_from_is_err_and c.from_residual-in_err-expect.result c.from_residual-in_err-expect.ensures.1 in
    rw (p.1, p.2) (eaten m.LabelOpen c.if-not-eat.ensures.yes (wanted name_in _ c.in_ok-label.ensures.found c.in_ok-label.ensures.rest (refused m.LabelClose c.in_err-expect.ensures.found)))

pub returns-clause-found : goal.returns-clause-found
returns-clause-found c = eaten m.LabelOpen c.if-not-eat.ensures.yes (wanted name_in _ c.in_ok-label.ensures.found c.in_ok-label.ensures.rest (eaten m.LabelClose c.in_ok-expect.ensures.found (c.outermost-2.ensures.found)))
