use Rattle.rule_tests.proofs.BrokenRules.{selects_break, recursions_break}
use Rattle.rule_tests.proofs.worked_rules.queries_break_their_rules.Goals as goal

pub returns-clause-selects : goal.returns-clause-selects
returns-clause-selects c = selects_break

pub returns-clause-recursions : goal.returns-clause-recursions
returns-clause-recursions c = recursions_break
