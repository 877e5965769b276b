use Rattle.function_facts.proofs.Sources.{over_their_tables}
use Rattle.function_facts.proofs.reads.checked_functions_read_their_tables.Goals as goal

pub returns : goal.returns
returns c = λ s written f slots checked small. over_their_tables s written f slots checked small
