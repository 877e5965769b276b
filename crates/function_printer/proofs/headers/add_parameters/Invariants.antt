use Rattle.sql_printer.proofs.Adding.{CommasLead}
use Rattle.function_printer.specs.FunctionTerminals.{parameter_terminals}
use Rattle.function_printer.proofs.headers.add_parameters.Given as goal

abbrev pub invariant-loop-index : goal.invariant-loop-index
invariant-loop-index l = CommasLead (λ p. parameter_terminals p) l.params l.initial.terminals l.index l.terminals
