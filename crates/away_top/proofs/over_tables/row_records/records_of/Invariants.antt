use Rattle.std.proofs.Common.{◌≡◌, ◌++◌, drop, false, fold}
use Rattle.csv.specs.Writing.{fields_written, has_written, writer_pending, writer_setup, writer_under}
use Rattle.away_top.specs.RowRecords.{record_text, records_text, writing}
use Rattle.away_top.proofs.over_tables.row_records.records_of.Given as goal

abbrev pub invariant-loop-row : goal.invariant-loop-row
invariant-loop-row l =
    (writer_setup l.writer ≡ writing)
    × (fields_written l.writer ≡ 0)
    × (has_written l.writer ≡ false)
    × (fold (λ text row. text ++ record_text row) ((writer_under l.writer).items ++ writer_pending l.writer) (drop l.row-index l.rows) ≡ records_text l.rows)
