-- The worked fields and files by computation.
use lib.Utf8.{encode}
use Rattle.std.proofs.Common.{refl}
use Rattle.std.specs.Str.{chars, is_utf8}
use Rattle.csv.specs.Machine.{next_record}
use Rattle.csv.specs.Reading.{records_from, strip_bom}
use Rattle.csv_tables.specs.Cells.{there_of, value_of}
use Rattle.csv_tables.specs.Files.{cell_of, cells_of, row_of, rows_in, rows_of}
use Rattle.csv_tables.specs.Worked.{FieldsWrite, FilesHold}

pub fields_write : FieldsWrite
unfolding value_of there_of chars is_utf8 encode
fields_write = record {
  null = refl;
  null_text = refl;
  plus = refl;
  minus = refl;
  zeros = refl;
  least = refl;
  too_large = refl;
  space = refl;
  nothing = refl;
  letter = refl;
  greatest_small = refl;
  too_large_small = refl;
  short_truth = refl;
  long_truth = refl;
  capitals = refl;
  empty_text = refl;
  accent = refl;
  no_utf8 = refl;
  zero_byte = refl;
}

pub files_hold : FilesHold
unfolding value_of there_of chars is_utf8 encode next_record records_from strip_bom cell_of cells_of row_of rows_of rows_in
files_hold = record {
  empty = refl;
  blank = refl;
  one_name_more = refl;
  other_order = refl;
  no_row = refl;
  rows = refl;
  no_number = refl;
  one_field = refl;
  null_key = refl;
  quoted_null_key = refl;
  nulls = refl;
  empty_text = refl;
  first_field = refl;
  quoted_comma = refl;
}
