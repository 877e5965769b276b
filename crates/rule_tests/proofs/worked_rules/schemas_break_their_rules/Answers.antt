use Rattle.rule_tests.proofs.BrokenRules.{schemas_break}
use Rattle.rule_tests.proofs.worked_rules.schemas_break_their_rules.Goals as goal

pub returns : goal.returns
returns c = schemas_break
