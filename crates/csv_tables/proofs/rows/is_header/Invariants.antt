use Rattle.std.proofs.Common.{◌≡◌, drop, length}
use Rattle.csv.specs.Records.{fields_of}
use Rattle.csv_tables.specs.Files.{is_header}
use Rattle.csv_tables.proofs.rows.is_header.Given as goal

abbrev pub invariant-loop-i : goal.invariant-loop-i
invariant-loop-i l = (length (fields_of l.fields) ≡ length l.columns) × (is_header l.columns (fields_of l.fields) ≡ is_header (drop l.i l.columns) (drop l.i (fields_of l.fields)))
