use Rattle.std.proofs.Common.{◌≡◌, ◌++◌, drop}
use Rattle.away_types.specs.FunctionChecks.{slot_types}
use Rattle.call_answers.proofs.standing.slot_types.Given as goal

abbrev pub invariant-loop-x : goal.invariant-loop-x
invariant-loop-x l = l.all ++ slot_types (drop l.x-index l.slots) ≡ slot_types l.slots
