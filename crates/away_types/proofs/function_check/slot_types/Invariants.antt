use Rattle.std.proofs.Common.{◌≡◌, take}
use Rattle.away_types.specs.FunctionChecks.{slot_types}
use Rattle.away_types.proofs.function_check.slot_types.Given as goal

abbrev pub invariant-loop-x : goal.invariant-loop-x
invariant-loop-x l = l.all ≡ slot_types (take l.x-index l.slots)
