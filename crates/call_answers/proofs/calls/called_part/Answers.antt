use Rattle.call_answers.specs.Calling.{maybe_called, names}
use Rattle.call_answers.proofs.CallRules.{part_call_rule, part_cast_rule}
use Rattle.call_answers.proofs.calls.called_part.Goals as goal

pub returns-in-Call : goal.returns-in-Call
returns-in-Call c = part_call_rule (names c.args.parts.now) c.in-Call.name c.in-Call.args c.as_slice.result.now c.args.e.now (maybe_called c.called_by.result) c.in-Call.is c.as_slice.ensures c.called_by.ensures

pub returns-in-Cast : goal.returns-in-Cast
returns-in-Cast c = part_cast_rule (names c.args.parts.now) c.in-Cast.inner c.get.result.now c.args.e.now c.in-Cast.t (maybe_called c.call_in.result) c.in-Cast.is c.get.ensures c.call_in.ensures
