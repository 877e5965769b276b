use Rattle.sql_printer.proofs.PrintBack.{prints_back}
use Rattle.sql_printer.proofs.print_laws.printed_queries_read_back.Goals as goal

pub returns : goal.returns
returns c = λ ts rest after q d. prints_back d after
