use Rattle.select_into.proofs.SourceReads.{no_row_as, more_rows_as, pick_read, no_row_slots, more_rows_slots, pick_slots}
use Rattle.select_into.proofs.laws.entries_read_as_the_select.Goals as goal

pub returns-clause-slots : goal.returns-clause-slots
returns-clause-slots c types s = (no_row_slots s, more_rows_slots s, pick_slots types s)

pub returns-clause-reads : goal.returns-clause-reads
returns-clause-reads c slots tables s x = (no_row_as slots tables s x, more_rows_as slots tables s x, pick_read slots tables s x)
