use Rattle.csv_tables.proofs.WorkedFiles as worked
use Rattle.csv_tables.proofs.laws.files_hold.Goals as goal

pub returns : goal.returns
returns c = worked.files_hold
