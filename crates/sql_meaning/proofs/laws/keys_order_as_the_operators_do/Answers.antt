use Rattle.sql_meaning.proofs.KeyOrders.{same_directed}
use Rattle.sql_meaning.proofs.laws.keys_order_as_the_operators_do.Goals as goal

pub returns : goal.returns
returns c = same_directed
