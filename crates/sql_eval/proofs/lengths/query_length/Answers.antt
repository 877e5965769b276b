-- A query without a recursive part has an answer at 0.
use Rattle.sql_eval.proofs.LeastBounds.{plain_length}
use Rattle.sql_eval.proofs.lengths.query_length.Goals as goal

pub returns-in-None : goal.returns-in-None
returns-in-None c = plain_length _ _ _ _ c.in-None.is
