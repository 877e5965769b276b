use Rattle.inline_calls.proofs.FaultRules.{are_none, none_of_replaced, some_of_refused, stand_once}
use Rattle.inline_calls.proofs.faults.faults_tell_inline.Goals as goal

pub returns-clause-once : goal.returns-clause-once
returns-clause-once c = stand_once

pub returns-clause-none : goal.returns-clause-none
returns-clause-none c = are_none

pub returns-clause-refused : goal.returns-clause-refused
returns-clause-refused c = some_of_refused

pub returns-clause-replaced : goal.returns-clause-replaced
returns-clause-replaced c = none_of_replaced
