use Rattle.function_printer.proofs.Examples.{closed_cases}
use Rattle.function_printer.proofs.worked.a_case_before_loop_is_closed.Goals as goal

pub returns : goal.returns
returns c = closed_cases
