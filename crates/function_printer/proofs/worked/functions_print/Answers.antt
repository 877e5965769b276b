use Rattle.function_printer.proofs.Examples.{functions}
use Rattle.function_printer.proofs.worked.functions_print.Goals as goal

pub returns : goal.returns
returns c = functions
