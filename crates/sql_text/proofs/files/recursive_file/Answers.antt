use Rattle.std.proofs.Common.{sym, ap, ◌∙◌}
use Rattle.std.proofs.lemmas.Result.{err_from_is_err_and}
use Rattle.away_grammar.specs.Grammar.{may_join}
use Rattle.sql_text.specs.Plans.{no_memory}
use Rattle.sql_text.proofs.Steps.{failed, read_on, read_no}
use Rattle.sql_text.proofs.Whole.{chosen, not_chosen}
use Rattle.sql_text.proofs.files.recursive_file.Goals as goal

pub returns-in_err-recursive-clause-found : goal.returns-in_err-recursive-clause-found
returns-in_err-recursive-clause-found c =
    let p = err_from_is_err_and c.from_residual.result c.from_residual.ensures.1 in
    rw (p.1, p.2) (read_no c.in_err-recursive.ensures.found)

pub returns-in_err-selects-clause-found : goal.returns-in_err-selects-clause-found
returns-in_err-selects-clause-found c =
    let p = err_from_is_err_and c.from_residual-in_err-selects.result c.from_residual-in_err-selects.ensures.1 in
    rw (p.1, p.2) (read_on c.in_ok-recursive.ensures.found (read_no c.in_err-selects.ensures.found))

pub returns-then-not-may_join-clause-found : goal.returns-then-not-may_join-clause-found
returns-then-not-may_join-clause-found c = read_on c.in_ok-recursive.ensures.found (read_on c.in_ok-selects.ensures.found (not_chosen _ _ _ (sym (c.if-not-may_join.ensures ∙ ap may_join c.as_slice.ensures)) failed))

pub returns-in_err-query-clause-found : goal.returns-in_err-query-clause-found
returns-in_err-query-clause-found c =
    let p = err_from_is_err_and c.from_residual-in_err-query.result c.from_residual-in_err-query.ensures.1 in
    rw (p.1, p.2) no_memory

pub returns-clause-found : goal.returns-clause-found
returns-clause-found c = read_on c.in_ok-recursive.ensures.found (read_on c.in_ok-selects.ensures.found (chosen _ _ _ (sym (c.if-not-may_join.ensures ∙ ap may_join c.as_slice.ensures)) (rw c.in_ok-query.ensures at c.ended.ensures.found)))
