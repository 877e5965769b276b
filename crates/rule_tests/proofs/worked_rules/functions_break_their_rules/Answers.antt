use Rattle.rule_tests.proofs.BrokenRules.{names_break, labels_break, types_break, selects_into_break, integers_break}
use Rattle.rule_tests.proofs.worked_rules.functions_break_their_rules.Goals as goal

pub returns-clause-names : goal.returns-clause-names
returns-clause-names c = names_break

pub returns-clause-labels : goal.returns-clause-labels
returns-clause-labels c = labels_break

pub returns-clause-types : goal.returns-clause-types
returns-clause-types c = types_break

pub returns-clause-selects_into : goal.returns-clause-selects_into
returns-clause-selects_into c = selects_into_break

pub returns-clause-integers : goal.returns-clause-integers
returns-clause-integers c = integers_break
