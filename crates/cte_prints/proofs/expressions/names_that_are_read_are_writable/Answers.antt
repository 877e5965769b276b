use Rattle.cte_prints.proofs.WritableReadings.{names_writable}
use Rattle.cte_prints.proofs.expressions.names_that_are_read_are_writable.Goals as goal

pub returns : goal.returns
returns c level ts x rest h k = (names_writable h k).names
