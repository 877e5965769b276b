use Rattle.away_grammar.specs.Printing.{name_alone}
use Rattle.sql_printer.proofs.Adding.{CommasLead}
use Rattle.sql_printer.proofs.names_and_literals.add_names.Given as goal

abbrev pub invariant-loop-index : goal.invariant-loop-index
invariant-loop-index l = CommasLead name_alone l.names l.initial.terminals l.index l.terminals
