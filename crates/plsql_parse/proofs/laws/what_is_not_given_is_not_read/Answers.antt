use Rattle.plsql_parse.proofs.OneTree.{nothing_read}
use Rattle.plsql_parse.proofs.laws.what_is_not_given_is_not_read.Goals as goal

pub returns : goal.returns
returns c = λ p ts x rest d e stops. nothing_read d e stops
