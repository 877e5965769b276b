use Rattle.sql_printer.proofs.TextTerminals.{text_writable}
use Rattle.sql_printer.proofs.print_laws.terminals_of_texts_are_writable.Goals as goal

pub returns : goal.returns
returns c = λ z ts u d. text_writable u d
