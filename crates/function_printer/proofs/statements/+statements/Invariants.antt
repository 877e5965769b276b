use Rattle.std.proofs.Common.{drop, map}
use Rattle.away_trees.specs.StatementAlgebra.{branch_of}
use Rattle.sql_printer.proofs.Adding.{Leads, MarksLead}
use Rattle.function_printer.specs.FunctionTerminals.{in_order, printing_statements, statement_terminals}
use Rattle.function_printer.proofs.statements.+statements.Given as goal

abbrev pub invariant-add_statements-loop-statement : goal.invariant-add_statements-loop-statement
invariant-add_statements-loop-statement l = Leads (in_order (map (λ s. statement_terminals s) l.statements)) l.initial.terminals (in_order (map (λ s. statement_terminals s) (drop l.statement-index l.statements))) l.terminals

abbrev pub invariant-add_arms-loop-index : goal.invariant-add_arms-loop-index
invariant-add_arms-loop-index l = MarksLead l.between (λ a. branch_of printing_statements a) l.arms l.initial.terminals l.index l.terminals
