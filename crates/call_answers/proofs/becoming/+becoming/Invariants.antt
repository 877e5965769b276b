use Rattle.std.proofs.Common.{drop}
use Rattle.call_answers.specs.declared.walking.Spot.{Spot}
use Rattle.call_answers.specs.Walking.{ArmsBecome, RowBecomes, rules_of}
use Rattle.call_answers.proofs.becoming.+becoming.Given as goal

abbrev pub invariant-row_becomes-loop-i : goal.invariant-row_becomes-loop-i
invariant-row_becomes-loop-i l = (e : Spot) → RowBecomes (rules_of l.w) l.c l.q (drop l.i l.list) (drop l.i l.xs) e → RowBecomes (rules_of l.w) l.c l.fn.p l.list l.xs e

abbrev pub invariant-arms_become-loop-i : goal.invariant-arms_become-loop-i
invariant-arms_become-loop-i l = (e : Spot) → ArmsBecome (rules_of l.w) l.c l.q (drop l.i l.list) (drop l.i l.xs) e → ArmsBecome (rules_of l.w) l.c l.fn.p l.list l.xs e
