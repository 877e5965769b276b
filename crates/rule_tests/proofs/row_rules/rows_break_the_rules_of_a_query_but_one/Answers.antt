use Rattle.rule_tests.proofs.RowRules.{but_one, same_params}
use Rattle.rule_tests.proofs.row_rules.rows_break_the_rules_of_a_query_but_one.Goals as goal

pub returns-clause-rules : goal.returns-clause-rules
returns-clause-rules c = but_one

pub returns-clause-params : goal.returns-clause-params
returns-clause-params c = same_params
