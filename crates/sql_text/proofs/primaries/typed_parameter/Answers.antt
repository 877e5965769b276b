use Rattle.std.proofs.Common.{refl}
use Rattle.std.proofs.lemmas.Result.{err_from_is_err_and}
use Rattle.away_grammar.specs.declared.grammar.Mark.TheVariants as m
use Rattle.sql_text.specs.TerminalKinds.{type_in, parameter_in}
use Rattle.sql_text.proofs.Steps.{finished, eaten, wanted, not_wanted, refused}
use Rattle.sql_text.proofs.primaries.typed_parameter.Goals as goal

pub returns-in_err-number-clause-found : goal.returns-in_err-number-clause-found
returns-in_err-number-clause-found c =
    let p = err_from_is_err_and c.from_residual.result c.from_residual.ensures.1 in
    rw (p.1, p.2) (not_wanted parameter_in _ c.in_err-number.field-0.0 c.in_err-number.ensures.found)

pub returns-in_err-expect-clause-found : goal.returns-in_err-expect-clause-found
returns-in_err-expect-clause-found c =
    let p = err_from_is_err_and c.from_residual-in_err-expect.result c.from_residual-in_err-expect.ensures.1 in
    rw (p.1, p.2) (wanted parameter_in _ c.in_ok-number.ensures.found c.in_ok-number.ensures.rest (refused m.As c.in_err-expect.ensures.found))

pub returns-in_err-ty-clause-found : goal.returns-in_err-ty-clause-found
returns-in_err-ty-clause-found c =
    let p = err_from_is_err_and c.from_residual-in_err-ty.result c.from_residual-in_err-ty.ensures.1 in
    rw (p.1, p.2) (wanted parameter_in _ c.in_ok-number.ensures.found c.in_ok-number.ensures.rest (eaten m.As c.in_ok-expect.ensures.found (not_wanted type_in _ c.in_err-ty.field-0.0 c.in_err-ty.ensures.found)))

pub returns-in_err-expect-2-clause-found : goal.returns-in_err-expect-2-clause-found
returns-in_err-expect-2-clause-found c =
    let p = err_from_is_err_and c.from_residual-in_err-expect-2.result c.from_residual-in_err-expect-2.ensures.1 in
    rw (p.1, p.2) (wanted parameter_in _ c.in_ok-number.ensures.found c.in_ok-number.ensures.rest (eaten m.As c.in_ok-expect.ensures.found (wanted type_in _ c.in_ok-ty.ensures.found c.in_ok-ty.ensures.rest (refused m.Close c.in_err-expect-2.ensures.found))))

pub returns-clause-found : goal.returns-clause-found
returns-clause-found c = wanted parameter_in _ c.in_ok-number.ensures.found c.in_ok-number.ensures.rest (eaten m.As c.in_ok-expect.ensures.found (wanted type_in _ c.in_ok-ty.ensures.found c.in_ok-ty.ensures.rest (eaten m.Close c.in_ok-expect-2.ensures.found (finished refl))))
