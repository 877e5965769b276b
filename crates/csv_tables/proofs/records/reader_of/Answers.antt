use Rattle.csv_tables.proofs.RecordSteps.{left_at_start}
use Rattle.csv_tables.proofs.records.reader_of.Goals as goal

pub returns-clause-records : goal.returns-clause-records
returns-clause-records c = left_at_start c.from_reader.result c.args.bytes.now c.from_reader.ensures.source c.from_reader.ensures.state
