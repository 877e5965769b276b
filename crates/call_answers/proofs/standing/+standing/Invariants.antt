use Rattle.std.proofs.Common.{◌≡◌, ◌++◌, drop, map}
use Rattle.elaboration.specs.ConvertingLists.{around}
use Rattle.call_expand.specs.Judges.{functions, names}
use Rattle.call_expand.specs.Parts.{arm_with_calls, converted_with_calls}
use Rattle.call_answers.proofs.standing.+standing.Given as goal

abbrev pub invariant-standing_row-loop-s : goal.invariant-standing_row-loop-s
invariant-standing_row-loop-s l = l.done ++ map (converted_with_calls (names l.c) (functions l.c) (around l.a)) (drop l.s-index l.list) ≡ map (converted_with_calls (names l.c) (functions l.c) (around l.a)) l.list

abbrev pub invariant-standing_arms-loop-arm : goal.invariant-standing_arms-loop-arm
invariant-standing_arms-loop-arm l = l.done ++ map (arm_with_calls (names l.c) (functions l.c) (around l.a)) (drop l.arm-index l.list) ≡ map (arm_with_calls (names l.c) (functions l.c) (around l.a)) l.list
