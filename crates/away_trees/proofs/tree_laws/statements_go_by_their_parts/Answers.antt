use Rattle.away_trees.specs.StatementEquations.{statement_algebra}
use Rattle.away_trees.proofs.StatementEquations.{statement_equations}
use Rattle.away_trees.proofs.tree_laws.statements_go_by_their_parts.Goals as goal

pub returns : goal.returns
returns g c = λ s. statement_equations (statement_algebra s)
