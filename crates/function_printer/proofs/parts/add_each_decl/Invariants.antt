use Rattle.std.proofs.Common.{drop, map}
use Rattle.sql_printer.proofs.Adding.{Leads}
use Rattle.function_printer.specs.FunctionTerminals.{decl_of, in_order}
use Rattle.function_printer.proofs.parts.add_each_decl.Given as goal

abbrev pub invariant-loop-decl : goal.invariant-loop-decl
invariant-loop-decl l = Leads (in_order (map (λ x. decl_of x) l.decls)) l.initial.terminals (in_order (map (λ x. decl_of x) (drop l.decl-index l.decls))) l.terminals
