use Rattle.plsql_meaning.proofs.FunctionLaws.{stays, more_before}
use Rattle.plsql_meaning.proofs.laws.answers_of_functions_stay.Goals as goal

pub returns-clause-stays : goal.returns-clause-stays
returns-clause-stays c = stays

pub returns-clause-more : goal.returns-clause-more
returns-clause-more c = more_before
