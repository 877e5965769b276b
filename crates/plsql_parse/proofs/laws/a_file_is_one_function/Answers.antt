use Rattle.plsql_parse.proofs.OneFile.{one_function}
use Rattle.plsql_parse.proofs.laws.a_file_is_one_function.Goals as goal

pub returns : goal.returns
returns c = λ z f g p q. one_function p q
