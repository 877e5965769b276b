use Rattle.std.proofs.Common.{rules}
use Rattle.csv_tables.specs.Unread.{records_left}
use Rattle.csv_tables.proofs.RecordSteps.{was_none, was_some}
use Rattle.csv_tables.proofs.RowSteps.{rows_begin, rows_end, rows_more, rows_refused}
use Rattle.csv_tables.proofs.table.rows_below.Goals as goal

pub loop-row-init : goal.loop-row-init
loop-row-init c = search (rules, rows_begin)

pub returns-then-not-branch-clause-rows : goal.returns-then-not-branch-clause-rows
returns-then-not-branch-clause-rows c =
    rows_end c.args.columns.now (records_left c.args.reader.now) (records_left c.loop-row.reader) c.loop-row.row c.loop-row.rows c.loop-row.invariant.1
    (was_none c.in_ok-next_record.field-0 _ _ _ c.in_ok-next_record.ensures c.if-not-branch.true)

pub returns-in_err-row_values-clause-refused : goal.returns-in_err-row_values-clause-refused
returns-in_err-row_values-clause-refused c =
    let took = was_some c.in_ok-next_record.field-0 _ _ _ c.in_ok-next_record.ensures c.if-not-branch.false in
    let refused = rows_refused c.args.columns.now (records_left c.args.reader.now) _ _ c.loop-row.row c.loop-row.rows _ c.in_err-row_values.field-0.0 c.loop-row.invariant.1 took.next c.in_err-row_values.ensures.refused in
    search rules

pub loop-row-preserved : goal.loop-row-preserved
loop-row-preserved c =
    let took = was_some c.in_ok-next_record.field-0 _ _ _ c.in_ok-next_record.ensures c.if-not-branch.false in
    (took.goes_on, rows_more c.args.columns.now (records_left c.args.reader.now) _ _ c.loop-row.row c.loop-row.rows _ _ c.in_ok-row_values.field-0 c.loop-row.invariant.1 took.next c.in_ok-row_values.ensures.values c.in_ok-push.ensures.ok)
