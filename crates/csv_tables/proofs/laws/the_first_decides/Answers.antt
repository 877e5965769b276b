use Rattle.csv_tables.proofs.FirstDecide as first
use Rattle.csv_tables.proofs.laws.the_first_decides.Goals as goal

pub returns : goal.returns
returns c = first.the_first_decides
