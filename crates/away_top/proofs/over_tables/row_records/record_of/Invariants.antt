use Rattle.std.proofs.Common.{◌≡◌, ◌++◌, [], drop}
use Rattle.csv.specs.Records.{fields_of, partial_of}
use Rattle.away_top.specs.RowRecords.{fields_of_row}
use Rattle.away_top.proofs.over_tables.row_records.record_of.Given as goal

abbrev pub invariant-loop-value : goal.invariant-loop-value
invariant-loop-value l = (partial_of l.fields ≡ []) × (fields_of l.fields ++ fields_of_row (drop l.value-index l.row) ≡ fields_of_row l.row)
