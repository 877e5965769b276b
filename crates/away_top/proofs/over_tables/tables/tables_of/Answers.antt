use Rattle.std.proofs.Common.{rules}
use Rattle.std.proofs.lemmas.Result.{err_from_is_err_and}
use Rattle.away_top.proofs.TableSteps.{tables_stop, tables_want}
use Rattle.away_top.proofs.over_tables.tables.tables_of.Goals as goal

pub returns-in_err-table_of : goal.returns-in_err-table_of
returns-in_err-table_of g c =
    let p = err_from_is_err_and c.from_residual.result c.from_residual.ensures.1 in
    rw (p.1, p.2) (tables_stop g.F.Files c.args.dir.now c.args.tables.now c.args.files.now c.loop-i.files c.loop-i.i c.loop-i.list c.loop-i.invariant c.index-tables-i.result c.loop-i-test.true (search rules)
    c.table_of.new.files c.in_err-table_of.field-0.0 c.in_err-table_of.ensures)

pub returns-in_err-push : goal.returns-in_err-push
returns-in_err-push g c =
    let p = err_from_is_err_and c.from_residual-in_err-push.result c.from_residual-in_err-push.ensures.1 in
    rw (p.1, p.2) (tables_want g.F.Files c.args.dir.now c.args.tables.now c.args.files.now c.loop-i.files c.loop-i.i c.loop-i.list c.loop-i.invariant c.index-tables-i.result c.loop-i-test.true (search rules)
    c.table_of.new.files c.in_ok-table_of.field-0 c.in_ok-table_of.ensures)
