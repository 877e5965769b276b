use Rattle.plsql_parse.proofs.Examples.{into_read, unlisted_unread}
use Rattle.plsql_parse.proofs.worked_functions.select_into_reads.Goals as goal

pub returns-clause-both : goal.returns-clause-both
returns-clause-both c = into_read

pub returns-clause-none : goal.returns-clause-none
returns-clause-none c = unlisted_unread
