use Rattle.function_printer.proofs.ExpressionTexts.{expression_reads}
use Rattle.function_printer.proofs.laws.printed_expressions_read.Goals as goal

pub returns : goal.returns
returns c = λ level ts rest x is_closed h d. expression_reads is_closed d h
