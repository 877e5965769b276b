use Rattle.std.proofs.Common.{sym}
use Rattle.std.proofs.lemmas.Result.{err_from_is_err_and}
use Rattle.sql_text.specs.TerminalKinds.{name_in}
use Rattle.sql_text.proofs.Steps.{eaten, left, wanted, not_wanted}
use Rattle.plsql_parse.proofs.Words.{then_on, else_on}
use Rattle.away_grammar.specs.declared.grammar.Mark.TheVariants as m
use Rattle.plsql_parse.proofs.headers.schema_qualified.Goals as goal

pub returns-in_err-first-clause-found : goal.returns-in_err-first-clause-found
returns-in_err-first-clause-found c =
    let p = err_from_is_err_and c.from_residual.result c.from_residual.ensures.1 in
    rw (p.1, p.2) (λ inside. not_wanted name_in _ c.in_err-first.field-0.0 c.in_err-first.ensures.found)

pub returns-then-not-is_public-clause-found : goal.returns-then-not-is_public-clause-found
returns-then-not-is_public-clause-found c = λ inside. wanted name_in _ c.in_ok-first.ensures.found c.in_ok-first.ensures.rest (else_on _ (sym c.if-not-is_public.ensures) (c.behind_name.ensures.found inside))

pub returns-then-not-eat-clause-found : goal.returns-then-not-eat-clause-found
returns-then-not-eat-clause-found c = λ inside. wanted name_in _ c.in_ok-first.ensures.found c.in_ok-first.ensures.rest (then_on _ (sym c.if-not-is_public.ensures) (left m.Dot c.if-not-eat.ensures.no (c.behind_name-then-not-eat.ensures.found inside)))

pub returns-in_err-name-clause-found : goal.returns-in_err-name-clause-found
returns-in_err-name-clause-found c =
    let p = err_from_is_err_and c.from_residual-in_err-name.result c.from_residual-in_err-name.ensures.1 in
    rw (p.1, p.2) (λ inside. wanted name_in _ c.in_ok-first.ensures.found c.in_ok-first.ensures.rest (then_on _ (sym c.if-not-is_public.ensures) (eaten m.Dot c.if-not-eat.ensures.yes (not_wanted name_in _ c.in_err-name.field-0.0 c.in_err-name.ensures.found))))

pub returns-clause-found : goal.returns-clause-found
returns-clause-found c = λ inside. wanted name_in _ c.in_ok-first.ensures.found c.in_ok-first.ensures.rest (then_on _ (sym c.if-not-is_public.ensures) (eaten m.Dot c.if-not-eat.ensures.yes (wanted name_in _ c.in_ok-name.ensures.found c.in_ok-name.ensures.rest (c.behind_name-2.ensures.found inside))))
