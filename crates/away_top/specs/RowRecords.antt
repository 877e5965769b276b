-- The status and the output that tell all rows of a query: a record for each, as `csv` writes it,
-- with commas and LF.
use Rattle.std.specs.Prelude.{ℕ, ◌++◌, true, false, List, [], codes, fold, map}
use Rattle.std.specs.Fmt.{signed_decimal}
use Rattle.std.specs.Str.{encode_utf8_all}
use Rattle.csv.specs.Writing.{default_writer, row_text, with_flexible}
use Rattle.csv.specs.declared.writer.WriterBuilder.{WriterBuilder}
use Rattle.away_values.specs.declared.values.Value.{Value}
use Rattle.away_values.specs.declared.values.Value.TheVariants as val
use Rattle.csv_tables.specs.Cells.{null_mark}
use Rattle.sql_meaning.specs.Context.{Rows}
use Rattle.sql_eval.specs.declared.rows_answer.RowsAnswer.{RowsAnswer}
use Rattle.sql_eval.specs.declared.rows_answer.RowsAnswer.TheVariants as rows
use Rattle.away_top.specs.declared.status.Status.{Status}
use Rattle.away_top.specs.declared.status.Status.TheVariants.{Done, More, Fault}
use Rattle.away_top.specs.Lines.{line}

-- `\N` for NULL, a number in decimal digits, and a text as it is
abbrev pub field_of : Value → List ℕ
field_of val.Null = null_mark
field_of (val.Int n) = signed_decimal n
field_of (val.Bool true) = codes "true"
field_of (val.Bool false) = codes "false"
field_of (val.Text t) = encode_utf8_all t

-- the fields of a row
abbrev pub fields_of_row : List Value → List (List ℕ)
fields_of_row = map field_of

-- fields between commas, in quotes where they need them; records may have any number of fields
abbrev pub writing : WriterBuilder
writing = with_flexible default_writer true

abbrev pub record_text : List Value → List ℕ
record_text row = row_text writing (fields_of_row row)

-- one record behind the other
abbrev pub records_text : Rows → List ℕ
records_text = fold (λ text row. text ++ record_text row) []

-- the status and the output of all rows of a query
abbrev pub rows_end : RowsAnswer → Status × List ℕ
rows_end (rows.Rows found) = (Done, records_text found)
rows_end (rows.Fault c) = (Fault, line (codes "fault " ++ c.code))
rows_end rows.More = (More, line (codes "more"))
