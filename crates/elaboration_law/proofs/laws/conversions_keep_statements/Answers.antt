use Rattle.away_trees.specs.StatementEquations.{statement_algebra}
use Rattle.elaboration_law.proofs.StatementsKept.{nodes_kept, statements_kept}
use Rattle.elaboration_law.proofs.laws.conversions_keep_statements.Goals as goal

pub returns-clause-every : goal.returns-clause-every
returns-clause-every g c = λ s. statements_kept (statement_algebra s)

pub returns-clause-nodes : goal.returns-clause-nodes
returns-clause-nodes g c = nodes_kept
