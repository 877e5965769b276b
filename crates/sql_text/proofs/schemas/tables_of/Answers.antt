use Rattle.std.proofs.Common.{rules, arith}
use Rattle.std.proofs.lemmas.Grind.{common_steps}
use Rattle.std.proofs.lemmas.Result.{err_from_is_err_and}
use Rattle.away_grammar.specs.declared.grammar.Mark.TheVariants as m
use Rattle.sql_text.specs.Plans.{no_memory}
use Rattle.sql_text.proofs.Steps.{eaten, read_on, read_no, refused}
use Rattle.sql_text.proofs.Names.{name_read, name_missing}
use Rattle.sql_text.proofs.Columns.{tables_more, tables_end, tables_fail}
use Rattle.sql_text.proofs.schemas.tables_of.Goals as goal

pub returns-in_err-expect-clause-found : goal.returns-in_err-expect-clause-found
returns-in_err-expect-clause-found c =
    let p = err_from_is_err_and c.from_residual.result c.from_residual.ensures.1 in
    rw (p.1, p.2) (tables_fail _ c.loop-alloc.invariant.begun (eaten m.Create c.loop-alloc-test.ensures.yes (refused m.Table c.in_err-expect.ensures.found)))

pub returns-in_err-name-clause-found : goal.returns-in_err-name-clause-found
returns-in_err-name-clause-found c =
    let p = err_from_is_err_and c.from_residual-in_err-name.result c.from_residual-in_err-name.ensures.1 in
    rw (p.1, p.2) (tables_fail _ c.loop-alloc.invariant.begun (eaten m.Create c.loop-alloc-test.ensures.yes (eaten m.Table c.in_ok-expect.ensures.found (name_missing _ _ c.in_err-name.field-0.0 c.in_err-name.ensures.found))))

pub returns-in_err-expect-2-clause-found : goal.returns-in_err-expect-2-clause-found
returns-in_err-expect-2-clause-found c =
    let p = err_from_is_err_and c.from_residual-in_err-expect-2.result c.from_residual-in_err-expect-2.ensures.1 in
    rw (p.1, p.2) (tables_fail _ c.loop-alloc.invariant.begun (eaten m.Create c.loop-alloc-test.ensures.yes (eaten m.Table c.in_ok-expect.ensures.found (name_read _ c.in_ok-name.ensures.found (refused m.Open c.in_err-expect-2.ensures.found)))))

pub returns-in_err-columns-clause-found : goal.returns-in_err-columns-clause-found
returns-in_err-columns-clause-found c =
    let p = err_from_is_err_and c.from_residual-in_err-columns.result c.from_residual-in_err-columns.ensures.1 in
    rw (p.1, p.2) (tables_fail _ c.loop-alloc.invariant.begun (eaten m.Create c.loop-alloc-test.ensures.yes (eaten m.Table c.in_ok-expect.ensures.found (name_read _ c.in_ok-name.ensures.found (eaten m.Open c.in_ok-expect-2.ensures.found (read_no c.in_err-columns.ensures.found))))))

pub returns-in_err-expect-3-clause-found : goal.returns-in_err-expect-3-clause-found
returns-in_err-expect-3-clause-found c =
    let p = err_from_is_err_and c.from_residual-in_err-expect-3.result c.from_residual-in_err-expect-3.ensures.1 in
    rw (p.1, p.2) (tables_fail _ c.loop-alloc.invariant.begun (eaten m.Create c.loop-alloc-test.ensures.yes (eaten m.Table c.in_ok-expect.ensures.found (name_read _ c.in_ok-name.ensures.found (eaten m.Open c.in_ok-expect-2.ensures.found (read_on c.in_ok-columns.ensures.found (refused m.Close c.in_err-expect-3.ensures.found)))))))

pub returns-in_err-expect-4-clause-found : goal.returns-in_err-expect-4-clause-found
returns-in_err-expect-4-clause-found c =
    let p = err_from_is_err_and c.from_residual-in_err-expect-4.result c.from_residual-in_err-expect-4.ensures.1 in
    rw (p.1, p.2) (tables_fail _ c.loop-alloc.invariant.begun (eaten m.Create c.loop-alloc-test.ensures.yes (eaten m.Table c.in_ok-expect.ensures.found (name_read _ c.in_ok-name.ensures.found (eaten m.Open c.in_ok-expect-2.ensures.found (read_on c.in_ok-columns.ensures.found (eaten m.Close c.in_ok-expect-3.ensures.found (refused m.Semicolon c.in_err-expect-4.ensures.found))))))))

pub returns-in_err-push-clause-found : goal.returns-in_err-push-clause-found
returns-in_err-push-clause-found c =
    let p = err_from_is_err_and c.from_residual-in_err-push.result c.from_residual-in_err-push.ensures.1 in
    rw (p.1, p.2) (no_memory)

pub loop-alloc-preserved : goal.loop-alloc-preserved
loop-alloc-preserved c = record { begun = rw c.in_ok-push.ensures.ok (tables_more _ c.loop-alloc.invariant.begun c.loop-alloc-test.ensures.yes c.in_ok-expect.ensures.found c.in_ok-name.ensures.found c.in_ok-expect-2.ensures.found c.in_ok-columns.ensures.found c.in_ok-expect-3.ensures.found c.in_ok-expect-4.ensures.found); shrinks = first_of (search rules, grind (arith, common_steps)) }

pub returns-clause-found : goal.returns-clause-found
returns-clause-found c = tables_end c.loop-alloc.invariant.begun c.loop-alloc-test.ensures.no
