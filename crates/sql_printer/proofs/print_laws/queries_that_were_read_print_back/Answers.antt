use Rattle.away_grammar.specs.Terminals.{token_terminals}
use Rattle.sql_printer.proofs.PrintTexts.{text_reads}
use Rattle.sql_printer.proofs.TextTerminals.{text_writable}
use Rattle.sql_printer.proofs.print_laws.queries_that_were_read_print_back.Goals as goal

pub returns : goal.returns
returns c = λ z q u h. let found = text_reads (token_terminals h.0) q (text_writable u h.1) h.2 in (found.0, found.1, found.3)
