use Rattle.std.proofs.Common.{string_bytes}
use Rattle.function_places.proofs.HintSteps.{IsToldOf}
use Rattle.function_places.proofs.hints.told_over.Given as goal

abbrev pub invariant-loop-entry : goal.invariant-loop-entry
invariant-loop-entry l = IsToldOf l.entries l.entry-index l.ended l.left (string_bytes l.text)
