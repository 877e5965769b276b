use Rattle.plsql_parse.proofs.Examples.{many_read}
use Rattle.plsql_parse.proofs.worked_functions.every_kind_of_statement_reads.Goals as goal

pub returns : goal.returns
returns c = many_read
