use Rattle.plsql_parse.proofs.Examples.{unpaired_unread}
use Rattle.plsql_parse.proofs.worked_functions.end_loop_ends_no_case.Goals as goal

pub returns : goal.returns
returns c = λ x d. unpaired_unread x d
