use Rattle.std.proofs.Common.{inl}
use Rattle.csv_tables.proofs.RecordSteps.{takes_next}
use Rattle.csv_tables.proofs.records.next_record.Goals as goal

pub returns : goal.returns
returns c = takes_next c.in-Ok.found c.args.reader.now _ _ c.requires (inl (c.in-Ok.ensures.ready c.requires.plain)) (c.in-Ok.ensures.reads c.requires.plain c.requires.ready)
