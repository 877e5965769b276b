use Rattle.function_printer.proofs.Closes.{closes, closed_reads, closed_ends}
use Rattle.function_printer.proofs.laws.closed_expressions_read_back.Goals as goal

pub returns-clause-reads : goal.returns-clause-reads
returns-clause-reads c = λ level ts rest after x h d. closed_reads (closes d h) after

pub returns-clause-ends : goal.returns-clause-ends
returns-clause-ends c = λ level ts rest before x h d. closed_ends (closes d h) before
