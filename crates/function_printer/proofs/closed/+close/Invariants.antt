use Rattle.std.proofs.Common.{drop}
use Rattle.sql_printer.proofs.Adding.{Leads}
use Rattle.function_printer.specs.Closed.{closed_chain}
use Rattle.function_printer.proofs.closed.+close.Given as goal

abbrev pub invariant-add_closed_links-loop-index : goal.invariant-add_closed_links-loop-index
invariant-add_closed_links-loop-index l = Leads (closed_chain l.level l.links) l.initial.terminals (closed_chain l.level (drop l.index l.links)) l.terminals
