use Rattle.std.proofs.Common.{◌≡◌, ◌++◌, drop, map, option_map, string_bytes}
use Rattle.away_grammar.specs.Printing.{terminals_text}
use Rattle.sql_printer.specs.PrintedTerminals.{terminal_of}
use Rattle.sql_printer.proofs.LaidOut.{left_text}
use Rattle.sql_printer.proofs.layout.laid_out.Given as goal

abbrev pub invariant-loop-terminal : goal.invariant-loop-terminal
invariant-loop-terminal l = string_bytes l.text ++ left_text (option_map terminal_of l.before) (map terminal_of (drop l.terminal-index l.terminals)) ≡ terminals_text (map terminal_of l.terminals)
