use Rattle.std.proofs.Common.{◌≡◌, drop}
use Rattle.goto_lower.specs.Drafts.{arms_in, emitted_arms}
use Rattle.goto_lower.specs.Enclosings.{frames_of}
use Rattle.goto_lower.specs.Whole.{finish}
use Rattle.goto_lower.proofs.Walk.{RowKept}
use Rattle.goto_lower.specs.Drafts.{row_in, emitted_row}
use Rattle.goto_lower.proofs.statements.+build.Given as goal

abbrev pub invariant-push_row-loop-i : goal.invariant-push_row-loop-i
invariant-push_row-loop-i l =
    RowKept l.setting.numbers l.setting.slots.now finish (drop l.i l.body) (frames_of l.flow.around.now) l.flow.next l.end l.draft
    (emitted_row (row_in l.setting l.body) (frames_of l.flow.around.now) l.flow.next l.fn.draft)

abbrev pub invariant-push_arms-loop-i : goal.invariant-push_arms-loop-i
invariant-push_arms-loop-i l =
    emitted_arms (arms_in l.setting (drop l.i l.arms)) (frames_of l.flow.around.now) l.flow.next l.lack l.draft
    ≡ emitted_arms (arms_in l.setting l.arms) (frames_of l.flow.around.now) l.flow.next l.lack l.fn.draft
