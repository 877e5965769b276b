use Rattle.std.proofs.Common.{sym, rules, arith}
use Rattle.std.proofs.lemmas.Result.{err_from_is_err_and}
use Rattle.std.proofs.lemmas.Grind.{common_steps}
use Rattle.sql_text.specs.Plans.{no_memory}
use Rattle.plsql_parse.proofs.HeaderLoops.{attributes_more, attributes_end, attributes_fail}
use Rattle.plsql_parse.proofs.attributes.attributes_of.Goals as goal

pub returns-in_err-attribute_of-clause-found : goal.returns-in_err-attribute_of-clause-found
returns-in_err-attribute_of-clause-found c =
    let p = err_from_is_err_and c.from_residual.result c.from_residual.ensures.1 in
    rw (p.1, p.2) (attributes_fail _ c.loop-alloc.invariant.begun (sym c.loop-alloc-test.ensures) c.in_err-attribute_of.ensures.found)

pub returns-in_err-push-clause-found : goal.returns-in_err-push-clause-found
returns-in_err-push-clause-found c =
    let p = err_from_is_err_and c.from_residual-in_err-push.result c.from_residual-in_err-push.ensures.1 in
    rw (p.1, p.2) (no_memory)

pub loop-alloc-preserved : goal.loop-alloc-preserved
loop-alloc-preserved c = record { begun = rw c.in_ok-push.ensures.ok (attributes_more _ c.loop-alloc.invariant.begun (sym c.loop-alloc-test.ensures) c.in_ok-attribute_of.ensures.found); shrinks = first_of (search rules, grind (arith, common_steps)) }

pub returns-clause-found : goal.returns-clause-found
returns-clause-found c = attributes_end _ c.loop-alloc.invariant.begun (sym c.loop-alloc-test.ensures)
