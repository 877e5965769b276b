use Rattle.sql_printer.proofs.PrintLevels.{place}
use Rattle.sql_printer.proofs.PrintBack.{prints_back}
use Rattle.sql_printer.proofs.print_laws.printed_expressions_read_back.Goals as goal

pub returns : goal.returns
returns c = λ level there ts rest after x d. place there x after (prints_back d)
