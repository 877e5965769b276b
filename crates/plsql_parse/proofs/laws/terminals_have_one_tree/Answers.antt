use Rattle.plsql_parse.proofs.OneTree.{one_tree}
use Rattle.plsql_parse.proofs.laws.terminals_have_one_tree.Goals as goal

pub returns : goal.returns
returns c = λ p ts x y rest other d stops e ends. one_tree d stops e ends
