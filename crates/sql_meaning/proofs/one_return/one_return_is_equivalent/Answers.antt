use Rattle.sql_meaning.proofs.Theorem.{one_return}
use Rattle.sql_meaning.proofs.one_return.one_return_is_equivalent.Goals as goal

pub returns : goal.returns
returns c = one_return
