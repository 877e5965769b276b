use Rattle.std.proofs.Common.{rules, arith}
use Rattle.std.proofs.lemmas.Grind.{common_steps}
use Rattle.std.proofs.lemmas.Result.{err_from_is_err_and}
use Rattle.sql_text.specs.Plans.{no_memory}
use Rattle.plsql_parse.proofs.HeaderLoops.{parameters_more, parameters_end, parameters_fail}
use Rattle.plsql_parse.proofs.headers.parameters_of.Goals as goal

pub returns-in_err-parameter_of-clause-found : goal.returns-in_err-parameter_of-clause-found
returns-in_err-parameter_of-clause-found c =
    let p = err_from_is_err_and c.from_residual.result c.from_residual.ensures.1 in
    rw (p.1, p.2) (parameters_fail _ c.loop-found.invariant.begun c.in_err-parameter_of.ensures.found)

pub returns-in_err-push-clause-found : goal.returns-in_err-push-clause-found
returns-in_err-push-clause-found c =
    let p = err_from_is_err_and c.from_residual-in_err-push.result c.from_residual-in_err-push.ensures.1 in
    rw (p.1, p.2) (no_memory)

pub returns-then-not-eat-clause-found : goal.returns-then-not-eat-clause-found
returns-then-not-eat-clause-found c = rw c.in_ok-push.ensures.ok (parameters_end _ c.loop-found.invariant.begun c.in_ok-parameter_of.ensures.found c.if-not-eat.ensures.no)

pub loop-found-preserved : goal.loop-found-preserved
loop-found-preserved c = record { begun = rw c.in_ok-push.ensures.ok (parameters_more _ c.loop-found.invariant.begun c.in_ok-parameter_of.ensures.found c.if-not-eat.ensures.yes); shrinks = first_of (search rules, grind (arith, common_steps)) }
