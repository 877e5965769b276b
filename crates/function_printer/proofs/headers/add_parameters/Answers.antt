use Rattle.sql_printer.proofs.Adding.{begins, comma_on, commas_end}
use Rattle.function_printer.specs.FunctionTerminals.{parameter_terminals}
use Rattle.function_printer.proofs.headers.add_parameters.Goals as goal

pub loop-index-init : goal.loop-index-init
loop-index-init c = begins

pub loop-index-preserved : goal.loop-index-preserved
loop-index-preserved c = comma_on (λ p. parameter_terminals p) _ _ _ c.index-params-index.is c.loop-index-test.true c.loop-index.invariant c.in_ok-mark_if.ensures c.in_ok-add_parameter.ensures

pub returns : goal.returns
returns c = commas_end (λ p. parameter_terminals p) _ _ c.loop-index-test.false c.loop-index.invariant
