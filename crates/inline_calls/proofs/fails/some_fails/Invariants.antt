use Rattle.inline_calls.proofs.FailRules.{NoneFailsBelow}
use Rattle.inline_calls.proofs.fails.some_fails.Given as goal

abbrev pub invariant-loop-b : goal.invariant-loop-b
invariant-loop-b l = NoneFailsBelow l.blocks l.marks l.b
