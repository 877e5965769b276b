use Rattle.csv_tables.specs.Unread.{IsBetween, records_left}
use Rattle.csv_tables.proofs.RowSteps.{ReadRows}
use Rattle.csv_tables.proofs.table.rows_below.Given as goal

abbrev pub invariant-loop-row : goal.invariant-loop-row
invariant-loop-row l = IsBetween l.reader × ReadRows l.columns (records_left l.fn.reader) l.row l.rows (records_left l.reader)
