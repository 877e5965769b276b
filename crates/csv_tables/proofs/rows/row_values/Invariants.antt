use Rattle.csv.specs.Records.{fields_of}
use Rattle.csv_tables.proofs.RowSteps.{ReadTo}
use Rattle.csv_tables.proofs.rows.row_values.Given as goal

abbrev pub invariant-loop-i : goal.invariant-loop-i
invariant-loop-i l = ReadTo l.row l.columns (fields_of l.fields) l.i l.values
