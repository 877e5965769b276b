use Rattle.std.proofs.Common.{◌≡◌, ◌+◌, drop}
use Rattle.goto_lower.specs.Building.{row_many, arms_many}
use Rattle.goto_lower.specs.Drafts.{row_in, arms_in}
use Rattle.goto_lower.proofs.counts.+many.Given as goal

abbrev pub invariant-row_many-loop-i : goal.invariant-row_many-loop-i
invariant-row_many-loop-i l = l.many + row_many (row_in l.setting (drop l.i l.list)) ≡ row_many (row_in l.setting l.list)

abbrev pub invariant-arms_many-loop-i : goal.invariant-arms_many-loop-i
invariant-arms_many-loop-i l = l.many + arms_many (arms_in l.setting (drop l.i l.list)) ≡ arms_many (arms_in l.setting l.list)
