use Rattle.std.proofs.Common.{refl}
use Rattle.std.proofs.lemmas.Result.{err_from_is_err_and}
use Rattle.away_grammar.specs.declared.grammar.Mark.TheVariants as m
use Rattle.sql_text.specs.TerminalKinds.{name_in}
use Rattle.sql_text.proofs.Steps.{finished, eaten, left, read_on, read_no, wanted, not_wanted, refused}
use Rattle.sql_text.proofs.Names.{eaten_or_left}
use Rattle.sql_text.proofs.tables.named_subquery.Goals as goal

pub returns-in_err-alias-clause-found : goal.returns-in_err-alias-clause-found
returns-in_err-alias-clause-found c =
    let p = err_from_is_err_and c.from_residual.result c.from_residual.ensures.1 in
    rw (p.1, p.2) (eaten_or_left m.As c.eat.result c.eat.ensures.yes c.eat.ensures.no (not_wanted name_in _ c.in_err-alias.field-0.0 c.in_err-alias.ensures.found))

pub returns-then-not-eat-clause-found : goal.returns-then-not-eat-clause-found
returns-then-not-eat-clause-found c = rw (c.from_with.ensures, c.new.ensures) (eaten_or_left m.As c.eat.result c.eat.ensures.yes c.eat.ensures.no (wanted name_in _ c.in_ok-alias.ensures.found c.in_ok-alias.ensures.rest (left m.Open c.if-not-eat.ensures.no (finished refl))))

pub returns-in_err-columns-clause-found : goal.returns-in_err-columns-clause-found
returns-in_err-columns-clause-found c =
    let p = err_from_is_err_and c.from_residual-in_err-columns.result c.from_residual-in_err-columns.ensures.1 in
    rw (p.1, p.2) (eaten_or_left m.As c.eat.result c.eat.ensures.yes c.eat.ensures.no (wanted name_in _ c.in_ok-alias.ensures.found c.in_ok-alias.ensures.rest (eaten m.Open c.if-not-eat.ensures.yes (read_no c.in_err-columns.ensures.found))))

pub returns-in_err-expect-clause-found : goal.returns-in_err-expect-clause-found
returns-in_err-expect-clause-found c =
    let p = err_from_is_err_and c.from_residual-in_err-expect.result c.from_residual-in_err-expect.ensures.1 in
    rw (p.1, p.2) (eaten_or_left m.As c.eat.result c.eat.ensures.yes c.eat.ensures.no (wanted name_in _ c.in_ok-alias.ensures.found c.in_ok-alias.ensures.rest (eaten m.Open c.if-not-eat.ensures.yes (read_on c.in_ok-columns.ensures.found (refused m.Close c.in_err-expect.ensures.found)))))

pub returns-clause-found : goal.returns-clause-found
returns-clause-found c = rw c.from_with-2.ensures (eaten_or_left m.As c.eat.result c.eat.ensures.yes c.eat.ensures.no (wanted name_in _ c.in_ok-alias.ensures.found c.in_ok-alias.ensures.rest (eaten m.Open c.if-not-eat.ensures.yes (read_on c.in_ok-columns.ensures.found (eaten m.Close c.in_ok-expect.ensures.found (finished refl))))))
