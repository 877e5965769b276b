use Rattle.call_law.proofs.HasTrees.{labels_have_trees}
use Rattle.call_law.proofs.terms.labels_have_trees.Goals as goal

pub returns : goal.returns
returns c = λ slots g z a r table called merged columned terms. labels_have_trees slots g z a r table called columned terms merged
