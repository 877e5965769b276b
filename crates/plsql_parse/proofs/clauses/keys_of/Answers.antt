use Rattle.plsql_parse.proofs.Lifted.{lifted_gives}
use Rattle.plsql_parse.proofs.clauses.keys_of.Goals as goal

pub returns-clause-found : goal.returns-clause-found
returns-clause-found c = lifted_gives c.order_of.ensures.found
