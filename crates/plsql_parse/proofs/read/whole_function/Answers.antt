use Rattle.plsql_parse.proofs.WholeFile.{file_of, no_body}
use Rattle.plsql_parse.proofs.read.whole_function.Goals as goal

pub returns-in-Ok : goal.returns-in-Ok
returns-in-Ok c = file_of _ _ c.in-Ok.inside _ c.in-Ok.ensures c.function_around.ensures

pub returns-in-Err : goal.returns-in-Err
returns-in-Err c = no_body _ _ c.in-Err.refusal c.in-Err.ensures
