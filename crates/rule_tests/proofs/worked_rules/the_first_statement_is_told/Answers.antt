use Rattle.rule_tests.proofs.BrokenRules.{nodes_told}
use Rattle.rule_tests.proofs.worked_rules.the_first_statement_is_told.Goals as goal

pub returns : goal.returns
returns c = nodes_told
