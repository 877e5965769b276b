use Rattle.sql_meaning.proofs.Bounds.{no_table, empty_table, faulty_table}
use Rattle.sql_meaning.proofs.laws.the_first_empty_or_faulty_table_decides.Goals as goal

pub returns-clause-more : goal.returns-clause-more
returns-clause-more c = no_table

pub returns-clause-empty : goal.returns-clause-empty
returns-clause-empty c = empty_table

pub returns-clause-fault : goal.returns-clause-fault
returns-clause-fault c = faulty_table
