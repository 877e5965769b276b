use Rattle.plsql_parse.proofs.Complete.{complete}
use Rattle.plsql_parse.proofs.laws.what_is_read_is_given.Goals as goal

pub returns : goal.returns
returns c = λ p ts x rest d stops. complete d stops
