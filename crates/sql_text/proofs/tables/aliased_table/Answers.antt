use Rattle.std.proofs.Common.{refl}
use Rattle.std.proofs.lemmas.Result.{err_from_is_err_and}
use Rattle.away_grammar.specs.declared.grammar.Mark.TheVariants as m
use Rattle.sql_text.specs.TerminalKinds.{name_in}
use Rattle.sql_text.specs.Plans.{no_memory}
use Rattle.sql_text.proofs.Steps.{finished, eaten, left, wanted, not_wanted}
use Rattle.sql_text.proofs.Names.{name_there, no_name_there}
use Rattle.sql_text.proofs.tables.aliased_table.Goals as goal

pub returns-in_err-alias-clause-found : goal.returns-in_err-alias-clause-found
returns-in_err-alias-clause-found c =
    let p = err_from_is_err_and c.from_residual.result c.from_residual.ensures.1 in
    rw (p.1, p.2) (eaten m.As c.if-eat.ensures.yes (not_wanted name_in _ c.in_err-alias.field-0.0 c.in_err-alias.ensures.found))

pub returns-then-eat-clause-found : goal.returns-then-eat-clause-found
returns-then-eat-clause-found c = rw (c.from_with.ensures, c.new.ensures) (eaten m.As c.if-eat.ensures.yes (wanted name_in _ c.in_ok-alias.ensures.found c.in_ok-alias.ensures.rest (finished refl)))

pub returns-in_err-alias-2-clause-found : goal.returns-in_err-alias-2-clause-found
returns-in_err-alias-2-clause-found c =
    let p = err_from_is_err_and c.from_residual-in_err-alias-2.result c.from_residual-in_err-alias-2.ensures.1 in
    rw (p.1, p.2) (no_memory)

pub returns-in_err-alias-in-None-clause-found : goal.returns-in_err-alias-in-None-clause-found
returns-in_err-alias-in-None-clause-found c =
    let p = err_from_is_err_and c.from_residual-in_err-alias-in-None.result c.from_residual-in_err-alias-in-None.ensures.1 in
    rw (p.1, p.2) (no_memory)

pub returns-in-Some-clause-found : goal.returns-in-Some-clause-found
returns-in-Some-clause-found c = rw (c.from_with-in-Some.ensures, c.new-in-Some.ensures) (left m.As c.if-eat.ensures.no (name_there _ _ c.in_ok-alias-2.ensures.found c.in-Some.is (finished refl)))

pub returns-in_ok-alias-in-None-clause-found : goal.returns-in_ok-alias-in-None-clause-found
returns-in_ok-alias-in-None-clause-found c = rw (c.from_with-in-None.ensures, c.new-in-None.ensures, c.in_ok-alias-in-None.ensures) (left m.As c.if-eat.ensures.no (no_name_there _ _ c.in_ok-alias-2.ensures.found c.in-None.is (finished refl)))
