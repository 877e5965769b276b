use Rattle.cte_prints.proofs.Files.{sources_are_read}
use Rattle.cte_prints.proofs.functions.sources_are_read.Goals as goal

pub returns : goal.returns
returns c = sources_are_read
