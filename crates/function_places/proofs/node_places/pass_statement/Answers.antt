use Rattle.function_places.proofs.NodeSteps.{statement_passed}
use Rattle.function_places.proofs.node_places.pass_statement.Goals as goal

pub returns-in-Ok-clause-passed : goal.returns-in-Ok-clause-passed
returns-in-Ok-clause-passed c = statement_passed _ c.in-Ok.ensures.found c.get.ensures c.counted.ensures
