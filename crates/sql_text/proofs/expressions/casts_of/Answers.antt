use Rattle.std.proofs.Common.{refl}
use Rattle.std.proofs.lemmas.Result.{err_from_is_err_and}
use Rattle.away_grammar.specs.declared.grammar.Mark.TheVariants as m
use Rattle.sql_text.specs.TerminalKinds.{type_in}
use Rattle.sql_text.specs.Plans.{no_memory}
use Rattle.sql_text.proofs.Steps.{finished, eaten, left, wanted, not_wanted}
use Rattle.sql_text.proofs.expressions.casts_of.Goals as goal

pub returns-in_err-first-clause-found : goal.returns-in_err-first-clause-found
returns-in_err-first-clause-found c =
    let p = err_from_is_err_and c.from_residual.result c.from_residual.ensures.1 in
    rw (p.1, p.2) (not_wanted type_in _ c.in_err-first.field-0.0 c.in_err-first.ensures.found)

pub returns-then-not-eat-clause-found : goal.returns-then-not-eat-clause-found
returns-then-not-eat-clause-found c = wanted type_in _ c.in_ok-first.ensures.found c.in_ok-first.ensures.rest (left m.Colons c.if-not-eat.ensures.no (finished refl))

pub returns-in_err-second-clause-found : goal.returns-in_err-second-clause-found
returns-in_err-second-clause-found c =
    let p = err_from_is_err_and c.from_residual-in_err-second.result c.from_residual-in_err-second.ensures.1 in
    rw (p.1, p.2) (wanted type_in _ c.in_ok-first.ensures.found c.in_ok-first.ensures.rest (eaten m.Colons c.if-not-eat.ensures.yes (not_wanted type_in _ c.in_err-second.field-0.0 c.in_err-second.ensures.found)))

pub returns-in_err-new-clause-found : goal.returns-in_err-new-clause-found
returns-in_err-new-clause-found c =
    let p = err_from_is_err_and c.from_residual-in_err-new.result c.from_residual-in_err-new.ensures.1 in
    rw (p.1, p.2) no_memory

pub returns-clause-found : goal.returns-clause-found
returns-clause-found c = rw c.in_ok-new.ensures (wanted type_in _ c.in_ok-first.ensures.found c.in_ok-first.ensures.rest (eaten m.Colons c.if-not-eat.ensures.yes (wanted type_in _ c.in_ok-second.ensures.found c.in_ok-second.ensures.rest (finished refl))))
