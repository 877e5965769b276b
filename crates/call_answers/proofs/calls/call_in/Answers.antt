use Rattle.call_answers.specs.Calling.{maybe_called, names}
use Rattle.call_answers.proofs.CallRules.{called_call_rule}
use Rattle.call_answers.proofs.calls.call_in.Goals as goal

pub returns-in-Call : goal.returns-in-Call
returns-in-Call c = called_call_rule (names c.args.parts.now) c.args.conversion c.in-Call.name c.in-Call.args c.as_slice.result.now c.args.e.now (maybe_called c.called_by.result) c.in-Call.is c.as_slice.ensures c.called_by.ensures
