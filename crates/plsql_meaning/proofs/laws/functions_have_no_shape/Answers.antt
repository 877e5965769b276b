use Rattle.plsql_meaning.proofs.FunctionLaws.{no_shape, no_shape_of_query}
use Rattle.plsql_meaning.proofs.laws.functions_have_no_shape.Goals as goal

pub returns-clause-function : goal.returns-clause-function
returns-clause-function c = no_shape

pub returns-clause-query : goal.returns-clause-query
returns-clause-query c = no_shape_of_query
