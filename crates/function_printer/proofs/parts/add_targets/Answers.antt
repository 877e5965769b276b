use Rattle.sql_printer.proofs.Adding.{as_terminals, begins, comma_on, commas_end}
use Rattle.function_printer.proofs.AddedParts.{target_alone, targets_terminals}
use Rattle.function_printer.proofs.parts.add_targets.Goals as goal

pub loop-index-init : goal.loop-index-init
loop-index-init c = begins

pub loop-index-preserved : goal.loop-index-preserved
loop-index-preserved c = comma_on target_alone _ _ _ c.index-targets-index.is c.loop-index-test.true c.loop-index.invariant c.in_ok-mark_if.ensures c.in_ok-name.ensures

pub returns : goal.returns
returns c = as_terminals (targets_terminals c.args.targets.now) (commas_end target_alone _ _ c.loop-index-test.false c.loop-index.invariant)
