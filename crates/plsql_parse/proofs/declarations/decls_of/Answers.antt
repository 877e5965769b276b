use Rattle.std.proofs.Common.{rules, sym, arith}
use Rattle.std.proofs.lemmas.Grind.{common_steps}
use Rattle.std.proofs.lemmas.Result.{err_from_is_err_and}
use Rattle.sql_text.specs.Plans.{no_memory}
use Rattle.plsql_parse.proofs.BodyLoops.{decls_more, decls_end, decls_fail}
use Rattle.plsql_parse.proofs.declarations.decls_of.Goals as goal

pub returns-in_err-decl_of-clause-found : goal.returns-in_err-decl_of-clause-found
returns-in_err-decl_of-clause-found c =
    let p = err_from_is_err_and c.from_residual.result c.from_residual.ensures.1 in
    rw (p.1, p.2) (decls_fail _ c.loop-alloc.invariant.begun (sym c.loop-alloc-test.ensures) c.in_err-decl_of.ensures.found)

pub returns-in_err-push-clause-found : goal.returns-in_err-push-clause-found
returns-in_err-push-clause-found c =
    let p = err_from_is_err_and c.from_residual-in_err-push.result c.from_residual-in_err-push.ensures.1 in
    rw (p.1, p.2) (no_memory)

pub loop-alloc-preserved : goal.loop-alloc-preserved
loop-alloc-preserved c = record { begun = rw c.in_ok-push.ensures.ok (decls_more _ c.loop-alloc.invariant.begun (sym c.loop-alloc-test.ensures) c.in_ok-decl_of.ensures.found); shrinks = first_of (search rules, grind (arith, common_steps)) }

pub returns-clause-found : goal.returns-clause-found
returns-clause-found c = decls_end _ c.loop-alloc.invariant.begun (sym c.loop-alloc-test.ensures)
