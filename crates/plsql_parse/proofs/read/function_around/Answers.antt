use Rattle.plsql_parse.proofs.read.function_around.Goals as goal

pub returns-in-Ok : goal.returns-in-Ok
returns-in-Ok c = rw c.around.ensures (c.in-Ok.ensures c.args.inside)

pub returns-in-Err : goal.returns-in-Err
returns-in-Err c = c.in-Err.ensures c.args.inside
