use Rattle.std.proofs.Common.{refl}
use Rattle.std.proofs.lemmas.Result.{err_from_is_err_and}
use Rattle.away_grammar.specs.declared.grammar.Mark.TheVariants as m
use Rattle.sql_text.specs.TerminalKinds.{name_in, type_in}
use Rattle.sql_text.proofs.Steps.{finished, eaten, left, wanted, not_wanted, refused}
use Rattle.sql_text.proofs.schemas.column_of.Goals.{then-not_null+in_ok-expect, else-not_null}
use Rattle.sql_text.proofs.schemas.column_of.Goals as goal

pub returns-in_err-name-clause-found : goal.returns-in_err-name-clause-found
returns-in_err-name-clause-found c =
    let p = err_from_is_err_and c.from_residual.result c.from_residual.ensures.1 in
    rw (p.1, p.2) (not_wanted name_in _ c.in_err-name.field-0.0 c.in_err-name.ensures.found)

pub returns-in_err-ty-clause-found : goal.returns-in_err-ty-clause-found
returns-in_err-ty-clause-found c =
    let p = err_from_is_err_and c.from_residual-in_err-ty.result c.from_residual-in_err-ty.ensures.1 in
    rw (p.1, p.2) (wanted name_in _ c.in_ok-name.ensures.found c.in_ok-name.ensures.rest (not_wanted type_in _ c.in_err-ty.field-0.0 c.in_err-ty.ensures.found))

pub returns-in_err-expect-clause-found : goal.returns-in_err-expect-clause-found
returns-in_err-expect-clause-found c =
    let p = err_from_is_err_and c.from_residual-in_err-expect.result c.from_residual-in_err-expect.ensures.1 in
    rw (p.1, p.2) (wanted name_in _ c.in_ok-name.ensures.found c.in_ok-name.ensures.rest (wanted type_in _ c.in_ok-ty.ensures.found c.in_ok-ty.ensures.rest (eaten m.Not c.if-not_null.ensures.yes (refused m.Null c.in_err-expect.ensures.found))))

pub returns-clause-found : goal.returns-clause-found
returns-clause-found c =
    elim c.if-not_null.branch [
      | then-not_null+in_ok-expect w ↦ rw (w.if-not_null.true, w.tokens-is) (wanted name_in _ c.in_ok-name.ensures.found c.in_ok-name.ensures.rest (wanted type_in _ c.in_ok-ty.ensures.found c.in_ok-ty.ensures.rest (eaten m.Not w.if-not_null.ensures.yes (eaten m.Null w.in_ok-expect.ensures.found (finished refl)))))
      | else-not_null w ↦ rw (w.if-not_null.false, w.tokens-is) (wanted name_in _ c.in_ok-name.ensures.found c.in_ok-name.ensures.rest (wanted type_in _ c.in_ok-ty.ensures.found c.in_ok-ty.ensures.rest (left m.Not w.if-not_null.ensures.no (finished refl))))
    ]
