use Rattle.std.proofs.Common.{refl}
use Rattle.std.proofs.lemmas.Result.{err_from_is_err_and}
use Rattle.away_grammar.specs.declared.grammar.Mark.TheVariants as m
use Rattle.sql_text.specs.TerminalKinds.{name_in}
use Rattle.sql_text.specs.Plans.{no_memory}
use Rattle.sql_text.proofs.Steps.{finished, eaten, left, wanted, not_wanted, refused}
use Rattle.plsql_parse.specs.Bodies.{counted_plan}
use Rattle.plsql_parse.proofs.BodySteps.{eat_by}
use Rattle.plsql_parse.proofs.loop_kinds.kind_of.Goals as goal

pub returns-then-eat-clause-found : goal.returns-then-eat-clause-found
returns-then-eat-clause-found c = eaten m.While c.if-eat.ensures.yes (c.while_loop.ensures.found)

pub returns-in_err-new-clause-found : goal.returns-in_err-new-clause-found
returns-in_err-new-clause-found c =
    let p = err_from_is_err_and c.from_residual.result c.from_residual.ensures.1 in
    rw (p.1, p.2) (no_memory)

pub returns-then-not-eat-clause-found : goal.returns-then-not-eat-clause-found
returns-then-not-eat-clause-found c = rw c.in_ok-new.ensures (left m.While c.if-eat.ensures.no (left m.For c.if-not-eat.ensures.no (finished refl)))

pub returns-in_err-name-clause-found : goal.returns-in_err-name-clause-found
returns-in_err-name-clause-found c =
    let p = err_from_is_err_and c.from_residual-in_err-name.result c.from_residual-in_err-name.ensures.1 in
    rw (p.1, p.2) (left m.While c.if-eat.ensures.no (eaten m.For c.if-not-eat.ensures.yes (not_wanted name_in _ c.in_err-name.field-0.0 c.in_err-name.ensures.found)))

pub returns-in_err-expect-clause-found : goal.returns-in_err-expect-clause-found
returns-in_err-expect-clause-found c =
    let p = err_from_is_err_and c.from_residual-in_err-expect.result c.from_residual-in_err-expect.ensures.1 in
    rw (p.1, p.2) (left m.While c.if-eat.ensures.no (eaten m.For c.if-not-eat.ensures.yes (wanted name_in _ c.in_ok-name.ensures.found c.in_ok-name.ensures.rest (refused m.In c.in_err-expect.ensures.found))))

pub returns-clause-found : goal.returns-clause-found
returns-clause-found c = left m.While c.if-eat.ensures.no (eaten m.For c.if-not-eat.ensures.yes (wanted name_in _ c.in_ok-name.ensures.found c.in_ok-name.ensures.rest (eaten m.In c.in_ok-expect.ensures.found (eat_by m.Reverse (λ reverse. counted_plan c.in_ok-name.name reverse) _ c.eat-reverse.ensures.yes c.eat-reverse.ensures.no (c.count_loop.ensures.found)))))
