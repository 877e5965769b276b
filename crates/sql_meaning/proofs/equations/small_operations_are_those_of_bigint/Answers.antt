use Rattle.sql_meaning.proofs.Nodes.{small_pair, small_minus, small_cast}
use Rattle.sql_meaning.proofs.equations.small_operations_are_those_of_bigint.Goals as goal

pub returns-clause-chain : goal.returns-clause-chain
returns-clause-chain c = small_pair

pub returns-clause-minus : goal.returns-clause-minus
returns-clause-minus c = small_minus

pub returns-clause-cast : goal.returns-clause-cast
returns-clause-cast c = small_cast
