use Rattle.away_trees.specs.AlgebraEquations.{algebra}
use Rattle.away_trees.proofs.AlgebraEquations.{equations}
use Rattle.away_trees.proofs.tree_laws.queries_go_by_their_parts.Goals as goal

pub returns : goal.returns
returns g c = λ s. equations (algebra s)
