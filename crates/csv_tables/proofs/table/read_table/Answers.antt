use Rattle.std.proofs.Common.{◌∙◌, rules, sym}
use Rattle.csv_tables.proofs.Fitting.{fits_table}
use Rattle.csv_tables.proofs.RecordSteps.{was_none, was_some}
use Rattle.csv_tables.proofs.RowSteps.{below_read, below_refused, no_header, wrong_header}
use Rattle.csv_tables.proofs.table.read_table.Goals as goal

pub returns-then-not-branch-clause-refused : goal.returns-then-not-branch-clause-refused
returns-then-not-branch-clause-refused c =
    no_header c.args.t.now c.args.bytes.now (sym c.reader_of-reader.ensures.records ∙ was_none c.in_ok-next_record.field-0 _ _ _ c.in_ok-next_record.ensures c.if-not-branch.true)

pub returns-then-not-is_header-clause-refused : goal.returns-then-not-is_header-clause-refused
returns-then-not-is_header-clause-refused c =
    let took = was_some c.in_ok-next_record.field-0 _ _ _ c.in_ok-next_record.ensures c.if-not-branch.false in
    let header = rw c.as_slice-columns.ensures at (sym c.is_header.ensures ∙ c.if-not-is_header.true) in
    wrong_header c.args.t.now c.args.bytes.now _ _ (sym c.reader_of-reader.ensures.records ∙ took.next) header

pub returns-in_err-rows_below-clause-refused : goal.returns-in_err-rows_below-clause-refused
returns-in_err-rows_below-clause-refused c =
    let took = was_some c.in_ok-next_record.field-0 _ _ _ c.in_ok-next_record.ensures c.if-not-branch.false in
    let header = rw c.as_slice-columns.ensures at (sym c.is_header.ensures ∙ c.if-not-is_header.false) in
    let refused = rw c.as_slice-columns.ensures at c.in_err-rows_below.ensures.refused in
    let whole = below_refused c.args.t.now c.args.bytes.now _ _ c.in_err-rows_below.field-0.0 (sym c.reader_of-reader.ensures.records ∙ took.next) header refused in
    search rules

pub returns-clause-rows : goal.returns-clause-rows
returns-clause-rows c =
    let took = was_some c.in_ok-next_record.field-0 _ _ _ c.in_ok-next_record.ensures c.if-not-branch.false in
    let header = rw c.as_slice-columns.ensures at (sym c.is_header.ensures ∙ c.if-not-is_header.false) in
    let rows = rw c.as_slice-columns.ensures at c.in_ok-rows_below.ensures.rows in
    below_read c.args.t.now c.args.bytes.now _ _ c.in_ok-rows_below.field-0 (sym c.reader_of-reader.ensures.records ∙ took.next) header rows

pub returns-clause-fits : goal.returns-clause-fits
returns-clause-fits c = fits_table c.args.t.now c.args.bytes.now c.in_ok-rows_below.field-0 (returns-clause-rows c)
