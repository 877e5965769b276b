use Rattle.plsql_meaning.proofs.FunctionLaws.{one_return, one_return_equivalent}
use Rattle.plsql_meaning.proofs.laws.one_return_is_a_function.Goals as goal

pub returns-clause-answer : goal.returns-clause-answer
returns-clause-answer c = one_return

pub returns-clause-equivalent : goal.returns-clause-equivalent
returns-clause-equivalent c = one_return_equivalent
