use Rattle.away_grammar.specs.Printing.{name_alone}
use Rattle.sql_printer.proofs.Adding.{begins, comma_on, commas_end}
use Rattle.sql_printer.proofs.names_and_literals.add_names.Goals as goal

pub loop-index-init : goal.loop-index-init
loop-index-init c = begins

pub loop-index-preserved : goal.loop-index-preserved
loop-index-preserved c = comma_on name_alone _ _ _ c.index-names-index.is c.loop-index-test.true c.loop-index.invariant c.in_ok-mark_if.ensures c.in_ok-name.ensures

pub returns : goal.returns
returns c = commas_end name_alone _ _ c.loop-index-test.false c.loop-index.invariant
