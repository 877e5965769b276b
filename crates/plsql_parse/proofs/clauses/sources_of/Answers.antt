use Rattle.plsql_parse.proofs.Lifted.{lifted_gives}
use Rattle.plsql_parse.proofs.clauses.sources_of.Goals as goal

pub returns-clause-found : goal.returns-clause-found
returns-clause-found c = lifted_gives c.from_of.ensures.found
