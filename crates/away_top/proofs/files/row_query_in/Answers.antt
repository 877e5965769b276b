use Rattle.std.proofs.Common.{inr}
use Rattle.away_types.specs.declared.checked_rows.CheckedRows.{CheckedRows}
use Rattle.away_types.specs.CheckedRows.{IsCheckedRows, rows_note}
use Rattle.away_top.specs.Course.{RefusedBy}
use Rattle.away_top.specs.Refusals.{BreaksRule, ReadsAsQuery, RefusesRowQuery}
use Rattle.away_top.proofs.Compiling.{refused_so}
use Rattle.away_top.proofs.Judging.{row_query_is}
use Rattle.away_top.proofs.Stretches.{judged_so}
use Rattle.away_top.proofs.files.row_query_in.Goals as goal

pub returns-in-Ok : goal.returns-in-Ok
returns-in-Ok c =
    let name = c.args.name.now in
    let bytes = c.args.bytes.now in
    let tables = c.args.tables.now.schema in
    let query = c.in-Ok.query in
    let reads : ReadsAsQuery bytes query = record { may_be_read = c.in-Ok.ensures.ok.0; reads = c.in-Ok.ensures.ok.1 } in
    judged_so (RefusedBy name (BreaksRule (rows_note tables query))) (RefusedBy name (RefusesRowQuery tables bytes)) (λ (checked : CheckedRows). IsCheckedRows tables query checked.query checked.params checked.columns) _ c.checked_rows.result
    (refused_so name (BreaksRule (rows_note tables query)) (RefusesRowQuery tables bytes) (λ rule broken. inr (query, reads, broken)))
    (λ checked is. (record { written = query; reads_as = reads; unbroken = is.unbroken }, row_query_is tables query checked is)) c.checked_rows.ensures
