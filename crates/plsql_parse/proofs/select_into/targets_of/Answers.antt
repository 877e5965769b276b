use Rattle.std.proofs.Common.{rules, arith}
use Rattle.std.proofs.lemmas.Grind.{common_steps}
use Rattle.std.proofs.lemmas.Result.{err_from_is_err_and}
use Rattle.sql_text.specs.Plans.{no_memory}
use Rattle.plsql_parse.proofs.TargetLoops.{targets_more, targets_end, targets_fail}
use Rattle.plsql_parse.proofs.select_into.targets_of.Goals as goal

pub returns-in_err-name-clause-found : goal.returns-in_err-name-clause-found
returns-in_err-name-clause-found c =
    let p = err_from_is_err_and c.from_residual.result c.from_residual.ensures.1 in
    rw (p.1, p.2) (targets_fail c.in_err-name.field-0.0 _ c.loop-found.invariant.begun c.in_err-name.ensures.found)

pub returns-in_err-push-clause-found : goal.returns-in_err-push-clause-found
returns-in_err-push-clause-found c =
    let p = err_from_is_err_and c.from_residual-in_err-push.result c.from_residual-in_err-push.ensures.1 in
    rw (p.1, p.2) (no_memory)

pub returns-then-not-eat-clause-found : goal.returns-then-not-eat-clause-found
returns-then-not-eat-clause-found c = rw c.in_ok-push.ensures.ok (targets_end _ c.loop-found.invariant.begun c.in_ok-name.ensures.found c.in_ok-name.ensures.rest c.if-not-eat.ensures.no)

pub loop-found-preserved : goal.loop-found-preserved
loop-found-preserved c = record { begun = rw c.in_ok-push.ensures.ok (targets_more _ c.loop-found.invariant.begun c.in_ok-name.ensures.found c.in_ok-name.ensures.rest c.if-not-eat.ensures.yes); shrinks = first_of (search rules, grind (arith, common_steps)) }
