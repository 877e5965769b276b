use Rattle.plsql_parse.proofs.Examples.{walk_body_read, walk_read}
use Rattle.plsql_parse.proofs.worked_functions.a_function_with_for_reads.Goals as goal

pub returns : goal.returns
returns c = (walk_body_read, walk_read)
