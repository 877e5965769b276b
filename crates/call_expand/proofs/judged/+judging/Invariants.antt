use Rattle.std.proofs.Common.{◌≡◌, ◌++◌, drop, map}
use Rattle.call_expand.specs.Judging.{judged_arm, judged_stmt}
use Rattle.call_expand.specs.Judges.{everywhere, functions, names}
use Rattle.call_expand.proofs.judged.+judging.Given as goal

abbrev pub invariant-judged_body-loop-s : goal.invariant-judged_body-loop-s
invariant-judged_body-loop-s l = l.done ++ map (judged_stmt (everywhere l.c) (names l.c) (functions l.c)) (drop l.s-index l.list) ≡ map (judged_stmt (everywhere l.c) (names l.c) (functions l.c)) l.list

abbrev pub invariant-judged_arms-loop-a : goal.invariant-judged_arms-loop-a
invariant-judged_arms-loop-a l = l.done ++ map (judged_arm (everywhere l.c) (names l.c) (functions l.c)) (drop l.a-index l.list) ≡ map (judged_arm (everywhere l.c) (names l.c) (functions l.c)) l.list
