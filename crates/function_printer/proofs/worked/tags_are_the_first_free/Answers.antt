use Rattle.function_printer.proofs.Examples.{free}
use Rattle.function_printer.proofs.worked.tags_are_the_first_free.Goals as goal

pub returns : goal.returns
returns c = free
