use Rattle.sql_printer.proofs.Adding.{CommasLead}
use Rattle.function_printer.proofs.AddedParts.{target_alone}
use Rattle.function_printer.proofs.parts.add_targets.Given as goal

abbrev pub invariant-loop-index : goal.invariant-loop-index
invariant-loop-index l = CommasLead target_alone l.targets l.initial.terminals l.index l.terminals
