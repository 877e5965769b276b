use Rattle.std.proofs.Common.{rules}
use Rattle.call_answers.proofs.CallRules.{calls_itself_rule, cast_rule}
use Rattle.call_answers.proofs.turns.found.Goals as goal

pub returns-then-eq : goal.returns-then-eq
returns-then-eq c = calls_itself_rule c.args.name.now c.in-Call.called c.in-Call.args c.as_slice.result.now c.args.e.now c.in-Call.is (search rules) c.as_slice.ensures

pub returns-else-is_called : goal.returns-else-is_called
returns-else-is_called c = cast_rule c.args.name.now c.in-Cast.inner c.args.e.now c.in-Cast.field-1 c.in-Cast.is (search rules)
