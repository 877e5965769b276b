use Rattle.sql_meaning.proofs.Nodes as own
use Rattle.sql_meaning.proofs.equations.calls_take_their_arguments.Goals as goal

pub returns-clause-coalesce : goal.returns-clause-coalesce
returns-clause-coalesce c = own.value_coalesce

pub returns-clause-aggregate : goal.returns-clause-aggregate
returns-clause-aggregate c = own.value_aggregate

pub returns-clause-other : goal.returns-clause-other
returns-clause-other c = own.value_other
