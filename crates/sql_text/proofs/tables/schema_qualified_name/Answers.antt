use Rattle.std.proofs.Common.{sym, ◌∙◌}
use Rattle.std.proofs.lemmas.Result.{err_from_is_err_and}
use Rattle.sql_text.proofs.Names.{none_read, other_read, public_read, behind_dot}
use Rattle.sql_text.proofs.tables.schema_qualified_name.Goals.{then-is_public+else-eat, else-is_public}
use Rattle.sql_text.proofs.tables.schema_qualified_name.Goals as goal

pub returns-in_err-first-clause-found : goal.returns-in_err-first-clause-found
returns-in_err-first-clause-found c =
    let p = err_from_is_err_and c.from_residual.result c.from_residual.ensures.1 in
    rw (p.1, p.2) (none_read _ _ c.in_err-first.field-0.0 c.in_err-first.ensures.found)

pub returns-then-eat-clause-found : goal.returns-then-eat-clause-found
returns-then-eat-clause-found c = behind_dot _ _ c.name-then-eat.result c.in_ok-first.ensures.found c.in_ok-first.ensures.rest (sym c.if-is_public.ensures) c.if-eat.ensures.yes c.name-then-eat.ensures.found c.name-then-eat.ensures.rest

pub returns-clause-found : goal.returns-clause-found
returns-clause-found c =
    elim c.if-is_public.branch [
      | then-is_public+else-eat w ↦ public_read c.in_ok-first.ensures.found c.in_ok-first.ensures.rest (sym w.if-is_public.ensures) (w.tokens-is ∙ w.if-eat.ensures.no.0, w.if-eat.ensures.no.1)
      | else-is_public w ↦ other_read c.in_ok-first.ensures.found (w.tokens-is ∙ c.in_ok-first.ensures.rest) (sym w.if-is_public.ensures)
    ]
