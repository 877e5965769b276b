use Rattle.csv_tables.proofs.WorkedFiles as worked
use Rattle.csv_tables.proofs.laws.fields_write.Goals as goal

pub returns : goal.returns
returns c = worked.fields_write
