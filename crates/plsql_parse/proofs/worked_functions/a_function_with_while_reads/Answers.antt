use Rattle.plsql_parse.proofs.Examples.{collatz_body_read, collatz_read}
use Rattle.plsql_parse.proofs.worked_functions.a_function_with_while_reads.Goals as goal

pub returns : goal.returns
returns c = (collatz_body_read, collatz_read)
