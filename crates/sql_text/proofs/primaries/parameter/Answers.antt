use Rattle.std.proofs.Common.{refl}
use Rattle.std.proofs.lemmas.Result.{err_from_is_err_and}
use Rattle.away_grammar.specs.declared.grammar.Mark.TheVariants as m
use Rattle.sql_text.specs.TerminalKinds.{type_in}
use Rattle.sql_text.proofs.Steps.{finished, eaten, wanted, not_wanted, refused}
use Rattle.sql_text.proofs.primaries.parameter.Goals as goal

pub returns-in_err-expect-clause-found : goal.returns-in_err-expect-clause-found
returns-in_err-expect-clause-found c =
    let p = err_from_is_err_and c.from_residual.result c.from_residual.ensures.1 in
    rw (p.1, p.2) (refused m.Colons c.in_err-expect.ensures.found)

pub returns-in_err-type_name-clause-found : goal.returns-in_err-type_name-clause-found
returns-in_err-type_name-clause-found c =
    let p = err_from_is_err_and c.from_residual-in_err-type_name.result c.from_residual-in_err-type_name.ensures.1 in
    rw (p.1, p.2) (eaten m.Colons c.in_ok-expect.ensures.found (not_wanted type_in _ c.in_err-type_name.field-0.0 c.in_err-type_name.ensures.found))

pub returns-clause-found : goal.returns-clause-found
returns-clause-found c = eaten m.Colons c.in_ok-expect.ensures.found (wanted type_in _ c.in_ok-type_name.ensures.found c.in_ok-type_name.ensures.rest (finished refl))
