use Rattle.sql_text.proofs.Complete.{complete}
use Rattle.sql_text.proofs.complete_law.what_is_read_is_given.Goals as goal

pub returns : goal.returns
returns c = λ n ts x rest d stops. complete d stops
