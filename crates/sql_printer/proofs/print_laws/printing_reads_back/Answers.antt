use Rattle.sql_printer.proofs.PrintTexts.{text_reads}
use Rattle.sql_printer.proofs.print_laws.printing_reads_back.Goals as goal

pub returns : goal.returns
returns c = λ ts q h d. text_reads ts q h d
